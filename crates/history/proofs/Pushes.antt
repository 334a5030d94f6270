-- Histories: their prefixes, and one more event at the end.
use Rattle.std.proofs.Common.{◌≡◌, ℕ, List, [], ◌∷◌, ◌++◌, sym, refl, ap, subst}
use Rattle.zero_copy_connection.specs.Answers.{Answer}
use Rattle.channel_laws.specs.Calls.{State, Call}
use Rattle.history.specs.Events.{Event, Answered, leaves, Runs}
use Rattle.history.specs.Books.{Books, booked, follow, IfOn, Along}

-- each prefix of a run is a run
pub runs_prefix : (es fs : List Event) (t z : State) → Runs t (es ++ fs) z → (y : State) × Runs t es y × Runs y fs z
runs_prefix [] fs t z r = (t, refl, r)
runs_prefix (x ∷ es) fs t z r = let p = runs_prefix es fs (leaves t x) z r.1 in (p.0, (r.0, p.1), p.2)

-- one more event: what a loop that makes the calls uses
pub runs_push : (es : List Event) (t y : State) (e : Event) → Runs t es y → Answered y e → Runs t (es ++ e ∷ []) (leaves y e)
runs_push [] t y e r a = (subst (λ (x : State). Answered x e) (sym r) a, ap (λ (x : State). leaves x e) r)
runs_push (x ∷ es) t y e r a = (r.0, runs_push es (leaves t x) y e r.1 a)

pub follow_push : (es : List Event) (c : ℕ) (b : Books) (e : Event) → follow c b (es ++ e ∷ []) ≡ booked c e (follow c b es)
follow_push [] c b e = refl
follow_push (x ∷ es) c b e = follow_push es c (booked c x b) e

pub along_push : (P : Books → Call → Answer → Type 0) (es : List Event) (c : ℕ) (b : Books) (e : Event) → Along P c b es → IfOn c e (P (follow c b es)) → Along P c b (es ++ e ∷ [])
along_push P [] c b e a p = (p, tt)
along_push P (x ∷ es) c b e a p = (a.0, along_push P es c (booked c x b) e a.1 p)
