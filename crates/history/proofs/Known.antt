-- What the invariant says of the checks, the counts and the oldest entries.
use Rattle.std.proofs.Common.{◌≡◌, ℕ, ◌<◌, ◌≤◌, List, ◌∷◌, length, None, subst, arith}
use Rattle.connection_words.specs.Settings.{Limits, buffer, channels}
use Rattle.connection_words.specs.Places.{needed, submission_of, completion_of}
use Rattle.connection_words.specs.Queues.{count, entry}
use Rattle.zero_copy_connection.specs.Checks.{channel_refusal}
use Rattle.channel_laws.specs.Calls.{State}
use Rattle.channel_laws.proofs.Views.{QueueIs, count_is, queue_high, oldest_is, within_sub, within_comp}
use Rattle.channel_laws.proofs.Sounds.{sound_limits, sound_within, open_channel}
use Rattle.history.specs.Books.{Books}
use Rattle.history.proofs.Good.{Good, st}

module _ (t : State) (b : Books) (c : ℕ) (g : Good (st t) c t b) where
  pub lim : Limits (st t)
  lim = sound_limits t.condition t.words g.stands

  pub long : needed (st t) ≤ length t.words
  long = sound_within t.condition t.words g.stands

  pub waiting_count : count t.words (submission_of (st t) c) ≡ length b.waiting
  waiting_count = count_is t.words (submission_of (st t) c) b.waiting g.view.sub

  pub returned_count : count t.words (completion_of (st t) c) ≡ length b.returned
  returned_count = count_is t.words (completion_of (st t) c) b.returned g.view.comp

  pub waiting_high : length b.waiting ≤ buffer (st t)
  waiting_high = queue_high t.words (submission_of (st t) c) b.waiting g.view.sub

  module _ (l : c < channels (st t)) where
    pub low : c < 64
    low = omega (arith, lim)

    pub channel_open : channel_refusal t.condition t.words c ≡ None
    channel_open = open_channel t.condition t.words c g.stands l g.view.sub.sound g.view.comp.sound

    pub waiting_first : (x : ℕ) (w : List ℕ) → b.waiting ≡ x ∷ w → entry t.words (submission_of (st t) c) 0 ≡ x
    waiting_first x w is =
        oldest_is t.words (submission_of (st t) c) x w (within_sub (st t) c lim l t.words long) (subst (QueueIs t.words (submission_of (st t) c)) is g.view.sub)

    pub returned_first_lem : (x : ℕ) (r : List ℕ) → b.returned ≡ x ∷ r → entry t.words (completion_of (st t) c) 0 ≡ x
    returned_first_lem x r is =
        oldest_is t.words (completion_of (st t) c) x r (within_comp (st t) c lim l t.words long) (subst (QueueIs t.words (completion_of (st t) c)) is g.view.comp)
