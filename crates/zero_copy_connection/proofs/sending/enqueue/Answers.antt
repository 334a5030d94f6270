use Rattle.std.proofs.Common.{sym}
use Rattle.dynamic_storage.proofs.Changing.{in_turn}
use Rattle.zero_copy_connection.proofs.Evicts.{evict_answer, evict_words}
use Rattle.zero_copy_connection.proofs.sending.enqueue.Goals as goal

pub returns : goal.returns
returns g c =
    let words = g.S.DynamicStorage.words c.args.storage.now in
    let now = g.S.DynamicStorage.words c.pop-oldest.new.storage in
    let next = g.S.DynamicStorage.words c.push-2.new.storage in
    let s = c.args.channel.now.layout.settings in
    let i = c.args.channel.now.index in
    let q = c.submission-waiting.result in
    let full = sym c.if-not-is_full.ensures in
    record {
      answer = evict_answer words now next s i c.args.value q.ring q.placed c.submission-waiting.ensures c.requires full c.pop-oldest.result c.pop-oldest.ensures.answer;
      storage = in_turn c.pop-oldest.ensures.storage c.push-2.ensures.storage (evict_words words now next s i c.args.value q.ring q.placed c.submission-waiting.ensures c.requires full c.pop-oldest.ensures.storage.words c.push-2.ensures.storage.words);
    }
