use Rattle.std.proofs.Common.{◌∙◌}
use Rattle.dynamic_storage.proofs.Changing.{in_turn}
use Rattle.zero_copy_connection.proofs.Delivers.{sound_kept, room_answer, room_words, judged_answer, judged_words}
use Rattle.zero_copy_connection.proofs.sending.deliver.Goals as goal

pub enqueue-requires : goal.enqueue-requires
enqueue-requires g c =
    let ch = c.args.channel.now in
    sound_kept _ _ ch.layout.settings ch.index c.args.value c.args.sample_size c.args.places.size c.args.places.mark ch.layout.limits ch.inside c.requires.size c.requires.mark c.record_chunk.ensures.words c.requires.sound

pub returns-in_default : goal.returns-in_default
returns-in_default g c =
    let ch = c.args.channel.now in
    let put = c.in_default.ensures in
    record {
      answer = room_answer _ _ ch.layout.settings ch.index c.args.value c.args.sample_size c.args.places.size c.args.places.mark ch.layout.limits ch.inside c.requires.size c.requires.mark c.record_chunk.ensures.words _ put.storage.words put.answer;
      storage = in_turn c.record_chunk.ensures put.storage (room_words _ _ ch.layout.settings ch.index c.args.value c.args.sample_size c.args.places.size c.args.places.mark ch.layout.limits ch.inside c.requires.size c.requires.mark c.record_chunk.ensures.words _ put.storage.words put.answer);
    }

pub returns : goal.returns
returns g c =
    let ch = c.args.channel.now in
    let put = c.in-Some.ensures in
    let judged = c.free_evicted.ensures in
    record {
      answer = judged.answer ∙ judged_answer _ _ ch.layout.settings ch.index c.args.value c.args.sample_size c.args.places.size c.args.places.mark ch.layout.limits ch.inside c.requires.size c.requires.mark c.record_chunk.ensures.words _ put.storage.words c.in-Some.oldest put.answer;
      storage = in_turn (in_turn c.record_chunk.ensures put.storage put.storage.words) judged.storage (judged.storage.words ∙ judged_words _ _ ch.layout.settings ch.index c.args.value c.args.sample_size c.args.places.size c.args.places.mark ch.layout.limits ch.inside c.requires.size c.requires.mark c.record_chunk.ensures.words _ put.storage.words c.in-Some.oldest put.answer);
    }
