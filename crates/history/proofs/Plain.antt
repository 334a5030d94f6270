-- Refusals that are neither 27 nor 32.
use Rattle.std.proofs.Common.{◌≡◌, ℕ, Bool, ◌≢◌, Some, None, Option, refl, ap, ◌∙◌, arith}
use Rattle.zero_copy_connection.specs.Answers.{Answer, refused, nothing, value, flag, number, answer_unless}
use Rattle.zero_copy_connection.specs.Receiving.{receive_refusal, release_refusal}
use Rattle.channel_laws.specs.Calls.{State, Call, sends, receives, releases, reclaims, answered}
use Rattle.channel_laws.proofs.Refusals.{Plain, refusals_leave}

-- sends alone answer 27, and reclaims alone 32
module _ (t : State) (x : Call) (unsent : (v size c : ℕ) → x ≢ sends v size c) (unclaimed : (c : ℕ) → x ≢ reclaims c) where
  plain_of : (o : Option ℕ) (a : Answer) → answered t x ≡ answer_unless o a → Plain o
  plain_of o a e n f =
      let law = refusals_leave t x n (e ∙ ap (λ (p : Option ℕ). answer_unless p a) f) in
      (λ z. let r = law.sent z in unsent r.0 r.1 r.2 r.3, λ z. let r = law.reclaimed z in unclaimed r.0 r.1)

pub plain_receive : (t : State) (c : ℕ) → Plain (receive_refusal t.condition t.words t.counts c)
plain_receive t c =
    plain_of t (receives c) (λ v size d e. let z : ◌≡◌ {A = ℕ} 0 1 = cc in omega arith) (λ d e. let z : ◌≡◌ {A = ℕ} 0 1 = cc in omega arith) (receive_refusal t.condition t.words t.counts c) _ refl

pub plain_release : (t : State) (c : ℕ) → Plain (release_refusal t.condition t.words t.counts c)
plain_release t c =
    plain_of t (releases 0 c) (λ v size d e. let z : ◌≡◌ {A = ℕ} 0 1 = cc in omega arith) (λ d e. let z : ◌≡◌ {A = ℕ} 0 1 = cc in omega arith) (release_refusal t.condition t.words t.counts c) nothing refl

abbrev pub Clean : Answer → Type 0
Clean a = (a ≢ refused 27) × (a ≢ refused 32)

refused_is : (m n : ℕ) → refused m ≡ refused n → m ≡ n
refused_is m n e = cc

pub clean_refused : (n : ℕ) → Plain (Some n) → Clean (refused n)
clean_refused n p = (λ e. (p n refl).0 (refused_is n 27 e), λ e. (p n refl).1 (refused_is n 32 e))

pub clean_nothing : Clean nothing
clean_nothing = (λ e. let z : ◌≡◌ {A = ℕ} 0 1 = cc in omega arith, λ e. let z : ◌≡◌ {A = ℕ} 0 1 = cc in omega arith)

pub clean_value : (v : ℕ) → Clean (value v)
clean_value v = (λ e. let z : ◌≡◌ {A = ℕ} 0 1 = cc in omega arith, λ e. let z : ◌≡◌ {A = ℕ} 0 1 = cc in omega arith)

pub clean_flag : (b : Bool) → Clean (flag b)
clean_flag b = (λ e. let z : ◌≡◌ {A = ℕ} 0 1 = cc in omega arith, λ e. let z : ◌≡◌ {A = ℕ} 0 1 = cc in omega arith)

pub clean_number : (n : ℕ) → Clean (number n)
clean_number n = (λ e. let z : ◌≡◌ {A = ℕ} 0 1 = cc in omega arith, λ e. let z : ◌≡◌ {A = ℕ} 0 1 = cc in omega arith)

pub clean_unless : (o : Option ℕ) (a : Answer) → Plain o → Clean a → Clean (answer_unless o a)
clean_unless (Some n) a p h = clean_refused n p
clean_unless None a p h = h
