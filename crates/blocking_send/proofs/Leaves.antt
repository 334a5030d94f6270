-- What a step leaves where no send is accepted.
use Rattle.std.proofs.Common.{◌≡◌, ℕ, Bool, true, false, cond, List, Some, None, Option, refl, arith}
use Rattle.connection_words.specs.Soundness.{settings_of}
use Rattle.zero_copy_connection.specs.Answers.{Answer, refused, nothing, unless, answer_unless}
use Rattle.zero_copy_connection.specs.Sending.{is_full, oldest, evicted, sent_words, send_refusal, freed_answer, freed_words}
use Rattle.blocking_send.specs.Laws.{StepsLeave}
use Rattle.blocking_send.specs.Waits.{Pending, Way, sends, refuses, waits, goes, ends, outcome_by, words_by, step_way}
use Rattle.blocking_send.proofs.Ways.{every_way}

pending_leaves : (way : Way) (sent : Answer) (next : Pending) (words after : List ℕ) → outcome_by way sent ≡ goes next → words_by way words after ≡ words
pending_leaves sends sent next words after e = cc
pending_leaves (refuses n) sent next words after e = refl
pending_leaves (waits w) sent next words after e = refl

-- a send that is refused by another number than 27
send_leaves_lem : (o : Option ℕ) (full : Bool) (freed : Option (List ℕ)) (v n : ℕ) (words after : List ℕ)
    → answer_unless o (cond full (freed_answer freed v 27) nothing) ≡ refused n → (n ≡ 27 → ⊥)
    → unless o words (cond full (freed_words freed after) after) ≡ words
send_leaves_lem (Some m) full freed v n words after e f = refl
send_leaves_lem None true (Some w) v n words after e f = cc
send_leaves_lem None true None v n words after e f = absurd (f (cc))
send_leaves_lem None false freed v n words after e f = cc

refusal_leaves : (way : Way) (sent : Answer) (n : ℕ) (words after : List ℕ) → outcome_by way sent ≡ ends (refused n)
    → (sent ≡ refused n → after ≡ words) → words_by way words after ≡ words
refusal_leaves sends sent n words after e f = f (cc)
refusal_leaves (refuses m) sent n words after e f = refl
refusal_leaves (waits w) sent n words after e f = refl

-- a send that is accepted, or that gives 27
abbrev Sends : Way → Type 0
Sends sends = Unit {0}
Sends (refuses n) = n ≡ 27 → ⊥
Sends (waits next) = Unit {0}

sent_by_lem : (way : Way) (sent a : Answer) (words after : List ℕ) → outcome_by way sent ≡ ends a → ((n : ℕ) → a ≡ refused n → n ≡ 27)
    → Sends way → (a ≡ sent) × (words_by way words after ≡ after)
sent_by_lem sends sent a words after e f q = (cc, refl)
sent_by_lem (refuses n) sent a words after e f q = absurd (q (f n (cc)))
sent_by_lem (waits w) sent a words after e f q = let z : ◌≡◌ {A = ℕ} 0 1 = cc in absurd (omega arith)

pub steps_leave : StepsLeave
steps_leave =
    record {
      pending = λ m w next e. pending_leaves (step_way m.condition m.words w m.action) _ next m.words _ e;
      refusal = λ m w n e other.
          refusal_leaves (step_way m.condition m.words w m.action) _ n m.words _ e
          (λ sent. send_leaves_lem (send_refusal m.condition m.words w.channel w.value w.size) (is_full m.words (settings_of m.words) w.channel) (evicted m.words (settings_of m.words) w.channel w.value w.size) (oldest m.words (settings_of m.words) w.channel) n m.words (sent_words m.words (settings_of m.words) w.channel w.value w.size) sent other);
      sent = λ m w a e f.
          sent_by_lem (step_way m.condition m.words w m.action) _ a m.words _ e f (every_way Sends w tt (λ n g. g) (λ retries until g. tt) m.condition m.words m.action);
    }
