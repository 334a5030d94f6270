use Rattle.std.proofs.Common.{false, [], ◌∷◌, ◌++◌, replicate, refl}
use Rattle.connection_words.specs.Places.{needed, channel_at, detail_at}
use Rattle.zero_copy_connection.specs.Checks.{channel_refusal}
use Rattle.zero_copy_connection.specs.Sending.{chunk_refusal}
use Rattle.worked_cases.specs.Cases.{value_at}
use Rattle.worked_cases.proofs.Goes.{stop, go}
use Rattle.worked_cases.proofs.Connected.{course}
use Rattle.worked_cases.proofs.States.{used, small, small_new, small_room, overflowing, overflowing_room}
use Rattle.worked_cases.proofs.worked_cases.Goals as goal

pub returns : goal.returns
unfolding channel_refusal chunk_refusal needed channel_at detail_at
returns c =
    record {
      value_made = refl;
      value_apart = (refl, refl);
      capacity = c.small_connection.ensures.small_completions false;
      words = c.small_connection.ensures.small_needed false;
      too_short = λ p before e. c.small_room.ensures.refused p false before e;
      long_enough = λ p before e. c.small_room.ensures.accepted p false before e;
      last_sample =
          λ p before h.
          let room = small_room before in
          let sent = small before 1 0 (value_at 448 ∷ replicate 3 0) (64 ∷ replicate 7 0 ++ 1 ∷ []) 0 in
          course refl refl h sent (go sent (rw room) (rw room) stop) (refl, refl);
      past_last_sample =
          λ p before h.
          let room = small_room before in
          course refl refl h (small_new before) (go (small_new before) (rw room) (rw room) stop) refl;
      zero_size =
          λ p before h.
          let room = small_room before in
          course refl refl h (small_new before) (go (small_new before) (rw room) (rw room) stop) refl;
      zero_size_full =
          λ p before h.
          let room = small_room before in
          let sent = small before 1 0 (replicate 4 0) (used 1) 0 in
          course refl refl h sent (go sent (rw room) (rw room) (go sent (rw room) (rw room) stop)) refl;
      one_on_loan =
          λ p before h.
          let room = small_room before in
          let sent = small before 1 0 (replicate 4 0) (used 1) 0 in
          let received = small before 0 0 (replicate 4 0) (used 1) 1 in
          course refl refl h received
          (go sent (rw room) (rw room) (go received (rw room) (rw room) (go received (rw room) (rw room) stop))) (refl, refl);
      fourth-release =
          λ p before h.
          let room = small_room before in
          let sent-0 = small before 1 0 (value_at 0 ∷ 0 ∷ 0 ∷ 0 ∷ []) (used 1) 0 in
          let received-0 = small before 0 0 (value_at 0 ∷ 0 ∷ 0 ∷ 0 ∷ []) (used 1) 1 in
          let released-0 = small before 0 1 (value_at 0 ∷ value_at 0 ∷ 0 ∷ 0 ∷ []) (used 1) 0 in
          let sent-1 = small before 1 1 (value_at 64 ∷ value_at 0 ∷ 0 ∷ 0 ∷ []) (used 2) 0 in
          let received-1 = small before 0 1 (value_at 64 ∷ value_at 0 ∷ 0 ∷ 0 ∷ []) (used 2) 1 in
          let released-1 = small before 0 2 (value_at 64 ∷ value_at 0 ∷ value_at 64 ∷ 0 ∷ []) (used 2) 0 in
          let sent-2 = small before 1 2 (value_at 128 ∷ value_at 0 ∷ value_at 64 ∷ 0 ∷ []) (used 3) 0 in
          let received-2 = small before 0 2 (value_at 128 ∷ value_at 0 ∷ value_at 64 ∷ 0 ∷ []) (used 3) 1 in
          let released-2 = small before 0 3 (value_at 128 ∷ value_at 0 ∷ value_at 64 ∷ value_at 128 ∷ []) (used 3) 0 in
          let sent-3 = small before 1 3 (value_at 192 ∷ value_at 0 ∷ value_at 64 ∷ value_at 128 ∷ []) (used 4) 0 in
          let received-3 = small before 0 3 (value_at 192 ∷ value_at 0 ∷ value_at 64 ∷ value_at 128 ∷ []) (used 4) 1 in
          course refl refl h received-3
          (go sent-0 (rw room) (rw room)
          (go received-0 (rw room) (rw room)
          (go released-0 (rw room) (rw room)
          (go sent-1 (rw room) (rw room)
          (go received-1 (rw room) (rw room)
          (go released-1 (rw room) (rw room)
          (go sent-2 (rw room) (rw room)
          (go received-2 (rw room) (rw room)
          (go released-2 (rw room) (rw room)
          (go sent-3 (rw room) (rw room)
          (go received-3 (rw room) (rw room)
          (go received-3 (rw room) (rw room) stop))))))))))))
          (refl, refl, refl);
      evicted-unused =
          λ p before h.
          let room = overflowing_room before in
          let sent-A = overflowing before (0 ∷ 1 ∷ 0 ∷ 0 ∷ []) (value_at 0 ∷ 0 ∷ 0 ∷ 0 ∷ 0 ∷ 0 ∷ []) (used 1) 0 in
          let sent-B = overflowing before (0 ∷ 2 ∷ 0 ∷ 0 ∷ []) (value_at 0 ∷ value_at 64 ∷ 0 ∷ 0 ∷ 0 ∷ 0 ∷ []) (used 2) 0 in
          let received-A = overflowing before (1 ∷ 1 ∷ 0 ∷ 0 ∷ []) (value_at 0 ∷ value_at 64 ∷ 0 ∷ 0 ∷ 0 ∷ 0 ∷ []) (used 2) 1 in
          let released-B = overflowing before (1 ∷ 1 ∷ 0 ∷ 1 ∷ []) (value_at 0 ∷ value_at 64 ∷ value_at 64 ∷ 0 ∷ 0 ∷ 0 ∷ []) (used 2) 0 in
          let reclaimed-B = overflowing before (1 ∷ 1 ∷ 1 ∷ 0 ∷ []) (value_at 0 ∷ value_at 64 ∷ value_at 64 ∷ 0 ∷ 0 ∷ 0 ∷ []) (used 1) 0 in
          let sent-C = overflowing before (1 ∷ 2 ∷ 1 ∷ 0 ∷ []) (value_at 128 ∷ value_at 64 ∷ value_at 64 ∷ 0 ∷ 0 ∷ 0 ∷ []) (64 ∷ 1 ∷ 0 ∷ 1 ∷ replicate 5 0) 0 in
          let sent-D = overflowing before (0 ∷ 2 ∷ 1 ∷ 0 ∷ []) (value_at 128 ∷ value_at 192 ∷ value_at 64 ∷ 0 ∷ 0 ∷ 0 ∷ []) (64 ∷ 1 ∷ 0 ∷ 1 ∷ 1 ∷ replicate 4 0) 0 in
          course refl refl h sent-D
          (go sent-A (rw room) (rw room)
          (go sent-B (rw room) (rw room)
          (go received-A (rw room) (rw room)
          (go released-B (rw room) (rw room)
          (go reclaimed-B (rw room) (rw room)
          (go sent-C (rw room) (rw room)
          (go sent-D (rw room) (rw room) stop)))))))
          (refl, refl, refl);
    }
