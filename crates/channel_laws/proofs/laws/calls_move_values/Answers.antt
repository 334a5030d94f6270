use Rattle.std.proofs.Common.{refl}
use Rattle.channel_laws.proofs.Sending.{send_moves}
use Rattle.channel_laws.proofs.Receiving.{receive_moves, release_moves}
use Rattle.channel_laws.proofs.Reclaiming.{reclaim_moves}
use Rattle.channel_laws.proofs.laws.calls_move_values.Goals as goal

pub returns : goal.returns
returns c t =
    record {
      send = send_moves t;
      receive = receive_moves t;
      release = release_moves t;
      reclaim = reclaim_moves t;
      ask = λ d. (refl, refl);
    }
