-- Calls one after the other, with each answer and each state written out.
use Rattle.std.proofs.Common.{◌≡◌, List, [], ◌∷◌, refl}
use Rattle.zero_copy_connection.specs.Answers.{Answer}
use Rattle.channel_laws.specs.Calls.{State, Call, answered, after}
use Rattle.worked_cases.specs.Courses.{answers_of, after_all}

pub data Goes : State → List Call → List Answer → State → Type 0 where
  stop : {t : State} → Goes t [] [] t
  go : {t w : State} {x : Call} {xs : List Call} {a : Answer} {answers : List Answer} (u : State)
      → answered t x ≡ a → after t x ≡ u → Goes u xs answers w → Goes t (x ∷ xs) (a ∷ answers) w

pub answers_of_lem : {t w : State} {xs : List Call} {answers : List Answer} → Goes t xs answers w → answers_of t xs ≡ answers
answers_of_lem stop = refl
answers_of_lem (go u p q r) = rw (p, q, answers_of_lem r)

pub after_all_lem : {t w : State} {xs : List Call} {answers : List Answer} → Goes t xs answers w → after_all t xs ≡ w
after_all_lem stop = refl
after_all_lem (go u p q r) = rw q (after_all_lem r)
