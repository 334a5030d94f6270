use Rattle.std.proofs.Common.{◌<◌, ◌/◌, length, arith}
use Rattle.std.proofs.lemmas.Bool.Decides.{nat_tests}
use Rattle.storage_backings.proofs.Bytes.{length_words, chunk_word}
use Rattle.storage_backings.proofs.borrowed_bytes.U8WordElement.load.Goals as goal

pub returns : goal.returns
returns c =
    let bytes = c.args.memory.now in
    let l = length_words bytes in
    let at = c.in_ok-get.ensures.lookup in
    let below : c.args.index < length bytes / 8 = grind (arith, nat_tests) in
    let word = chunk_word bytes c.in_ok-get.field-0.now _ c.args.index below c.as_chunks.ensures.front at.1 in
    grind (arith, nat_tests)
