-- What refused calls leave.
use Rattle.std.proofs.Common.{◌≡◌, ℕ, ◌/◌, ◌%◌, Bool, true, false, cond, not, ◌&&◌, eqb, leb, ◌≢◌, List, get_or, Some, None, Option, sym, refl, ◌∙◌, arith}
use Rattle.dynamic_storage.specs.declared.condition.Condition.{Condition}
use Rattle.shm_allocator.specs.Offsets.{segment_of, offset_of}
use Rattle.connection_words.specs.declared.settings.Settings.{Settings}
use Rattle.connection_words.specs.Settings.{borrowed, samples, segments, channels, completions}
use Rattle.connection_words.specs.Places.{submission_of, completion_of}
use Rattle.connection_words.specs.Soundness.{settings_of, sound}
use Rattle.connection_words.specs.Queues.{count, entry, channel_sound}
use Rattle.connection_words.specs.Chunks.{size_for, mark_of}
use Rattle.zero_copy_connection.specs.declared.mark.Mark.TheVariants.{Used}
use Rattle.zero_copy_connection.specs.Answers.{Answer, refused, nothing, value, flag, number, or_else, unless, answer_unless}
use Rattle.zero_copy_connection.specs.Marks.{is_mark}
use Rattle.zero_copy_connection.specs.Checks.{channel_refusal}
use Rattle.zero_copy_connection.specs.Sending.{is_full, full_refusal, chunk_refusal, send_refusal, freed_answer, freed_words, sent_words, oldest, evicted, returned_first, taken, freed, none_returned}
use Rattle.zero_copy_connection.specs.Receiving.{borrow_count, receive_refusal, release_refusal, is_empty}
use Rattle.channel_laws.specs.Calls.{State, state_of, Call, sends, receives, releases, reclaims, asks_data, asks_count}
use Rattle.channel_laws.specs.Laws.{RefusalLeaves, RefusalsLeave}

-- neither 27 nor 32
abbrev pub Plain : Option ℕ → Type 0
Plain o = (n : ℕ) → o ≡ Some n → (n ≢ 27) × (n ≢ 32)

plain_none : Plain None
plain_none n e = let z : ◌≡◌ {A = ℕ} 0 1 = cc in absurd (omega arith)

plain_cond : (b : Bool) (k : ℕ) (o : Option ℕ) → k ≢ 27 → k ≢ 32 → Plain o → Plain (cond b (Some k) o)
plain_cond true k o p q h n e = let same : k ≡ n = cc in (λ z. p (same ∙ z), λ z. q (same ∙ z))
plain_cond false k o p q h n e = h n e

plain_else : (o p : Option ℕ) → Plain o → Plain p → Plain (or_else o p)
plain_else (Some m) p h k = h
plain_else None p h k = k

module _ (k : Condition) (words : List ℕ) (c : ℕ) where
  pub plain_channel : Plain (channel_refusal k words c)
  unfolding channel_refusal
  plain_channel =
      plain_cond (not (sound k words)) 50 _ (omega arith) (omega arith)
      (plain_cond (leb (channels (settings_of words)) c) 51 _ (omega arith) (omega arith)
      (plain_cond (not (channel_sound words (settings_of words) c)) 50 None (omega arith) (omega arith) plain_none))

  plain_chunk : (v size : ℕ) → Plain (chunk_refusal words (settings_of words) c v size)
  unfolding chunk_refusal
  plain_chunk v size =
      let s : Settings = settings_of words in
      plain_cond (leb (segments s) (segment_of v)) 21 _ (omega arith) (omega arith)
      (plain_cond (eqb size 0) 22 _ (omega arith) (omega arith)
      (plain_cond (not (eqb (size_for words s c v) 0) && not (eqb (size_for words s c v) size)) 23 _ (omega arith) (omega arith)
      (plain_cond (not (eqb (offset_of v % size) 0)) 24 _ (omega arith) (omega arith)
      (plain_cond (leb (samples s) (offset_of v / size)) 25 _ (omega arith) (omega arith)
      (plain_cond (is_mark Used (get_or words (mark_of s c size v) 0)) 26 None (omega arith) (omega arith) plain_none)))))

  pub plain_send : (v size : ℕ) → Plain (send_refusal k words c v size)
  plain_send v size =
      plain_else (channel_refusal k words c) _ plain_channel
      (plain_else (full_refusal words (settings_of words) c) (chunk_refusal words (settings_of words) c v size)
      (plain_cond (is_full words (settings_of words) c && not (settings_of words).enable_safe_overflow) 20 None (omega arith) (omega arith) plain_none)
      (plain_chunk v size))

  plain_receive : (counts : List ℕ) → Plain (receive_refusal k words counts c)
  plain_receive counts =
      plain_else (channel_refusal k words c) _ plain_channel
      (plain_cond (leb (borrowed (settings_of words)) (borrow_count counts c)) 40 None (omega arith) (omega arith) plain_none)

  plain_release : (counts : List ℕ) → Plain (release_refusal k words counts c)
  plain_release counts =
      plain_else (channel_refusal k words c) _ plain_channel
      (plain_cond (leb (completions (settings_of words)) (count words (completion_of (settings_of words) c))) 41 _ (omega arith) (omega arith)
      (plain_cond (eqb (borrow_count counts c) 0) 42 None (omega arith) (omega arith) plain_none))

-- an answer that is no refusal
abbrev Served : Answer → Type 0
Served a = (n : ℕ) → a ≡ refused n → ⊥

value_served : (v : ℕ) → Served (value v)
value_served v n e = let z : ◌≡◌ {A = ℕ} 0 1 = cc in omega arith

nothing_served : Served nothing
nothing_served n e = let z : ◌≡◌ {A = ℕ} 0 1 = cc in omega arith

flag_served : (b : Bool) → Served (flag b)
flag_served b n e = let z : ◌≡◌ {A = ℕ} 0 1 = cc in omega arith

number_served : (v : ℕ) → Served (number v)
number_served v n e = let z : ◌≡◌ {A = ℕ} 0 1 = cc in omega arith

cond_served : (b : Bool) (x y : Answer) → Served x → Served y → Served (cond b x y)
cond_served true x y p q = p
cond_served false x y p q = q

module _ (t : State) (x : Call) (n : ℕ) where
  plain_leaves : n ≢ 27 → n ≢ 32 → RefusalLeaves t x n t
  plain_leaves p q = record { leaves = λ _ _. refl; sent = λ e. absurd (p e); reclaimed = λ e. absurd (q e) }

  -- a refusal before anything was done
  first_leaves : (m : ℕ) → Plain (Some m) → answer_unless (Some m) nothing ≡ refused n → RefusalLeaves t x n t
  first_leaves m h e = let same : m ≡ n = cc in plain_leaves (λ z. (h m refl).0 (same ∙ z)) (λ z. (h m refl).1 (same ∙ z))

  -- calls that refuse at no other time
  served_leaves : (o : Option ℕ) → Plain o → (a : Answer) → Served a → (words counts : List ℕ) → answer_unless o a ≡ refused n → RefusalLeaves t x n (state_of t.condition (unless o t.words words) (unless o t.counts counts))
  served_leaves (Some m) h a s words counts e = first_leaves m h e
  served_leaves None h a s words counts e = absurd (s n e)

  -- calls that change nothing
  asked_leaves : (o : Option ℕ) → Plain o → (a : Answer) → Served a → answer_unless o a ≡ refused n → RefusalLeaves t x n t
  asked_leaves (Some m) h a s e = first_leaves m h e
  asked_leaves None h a s e = absurd (s n e)

module _ (t : State) (v size c n : ℕ) where
  send_leaves_lem : (o : Option ℕ) → Plain o → (full : Bool) (changed : Option (List ℕ)) (e : ℕ) → answer_unless o (cond full (freed_answer changed e 27) nothing) ≡ refused n → RefusalLeaves t (sends v size c) n (state_of t.condition (unless o t.words (cond full (freed_words changed (sent_words t.words (settings_of t.words) c v size)) (sent_words t.words (settings_of t.words) c v size))) t.counts)
  send_leaves_lem (Some m) h full changed e r = first_leaves t (sends v size c) n m h r
  send_leaves_lem None h true (Some words) e r = absurd (value_served e n r)
  send_leaves_lem None h true None e r =
      let same : 27 ≡ n = cc in
      record {
        leaves = λ p q. absurd (p (sym same));
        sent = λ _. (v, size, c, refl, refl);
        reclaimed = λ z. absurd (omega arith);
      }
  send_leaves_lem None h false changed e r = absurd (nothing_served n r)

module _ (t : State) (c n : ℕ) where
  reclaim_leaves_lem : (o : Option ℕ) → Plain o → (none : Bool) (changed : Option (List ℕ)) (v : ℕ) → answer_unless o (cond none nothing (freed_answer changed v 32)) ≡ refused n → RefusalLeaves t (reclaims c) n (state_of t.condition (unless o t.words (cond none t.words (freed_words changed (taken t.words (settings_of t.words) c)))) t.counts)
  reclaim_leaves_lem (Some m) h none changed v r = first_leaves t (reclaims c) n m h r
  reclaim_leaves_lem None h true changed v r = absurd (nothing_served n r)
  reclaim_leaves_lem None h false (Some words) v r = absurd (value_served v n r)
  reclaim_leaves_lem None h false None v r =
      let same : 32 ≡ n = cc in
      record {
        leaves = λ p q. absurd (q (sym same));
        sent = λ z. absurd (omega arith);
        reclaimed = λ _. (c, refl, refl);
      }

pub refusals_leave : RefusalsLeave
refusals_leave t (sends v size c) n e =
    send_leaves_lem t v size c n (send_refusal t.condition t.words c v size) (plain_send t.condition t.words c v size) (is_full t.words (settings_of t.words) c) (evicted t.words (settings_of t.words) c v size) (oldest t.words (settings_of t.words) c) e
refusals_leave t (receives c) n e =
    served_leaves t (receives c) n (receive_refusal t.condition t.words t.counts c) (plain_receive t.condition t.words c t.counts) _
    (cond_served (is_empty t.words (settings_of t.words) c) nothing (value (entry t.words (submission_of (settings_of t.words) c) 0)) nothing_served (value_served _)) _ _ e
refusals_leave t (releases v c) n e =
    served_leaves t (releases v c) n (release_refusal t.condition t.words t.counts c) (plain_release t.condition t.words c t.counts) nothing nothing_served _ _ e
refusals_leave t (reclaims c) n e =
    reclaim_leaves_lem t c n (channel_refusal t.condition t.words c) (plain_channel t.condition t.words c) (none_returned t.words (settings_of t.words) c) (freed t.words (settings_of t.words) c) (returned_first t.words (settings_of t.words) c) e
refusals_leave t (asks_data c) n e =
    asked_leaves t (asks_data c) n (channel_refusal t.condition t.words c) (plain_channel t.condition t.words c) _ (flag_served _) e
refusals_leave t (asks_count c) n e =
    asked_leaves t (asks_count c) n (channel_refusal t.condition t.words c) (plain_channel t.condition t.words c) _ (number_served _) e
