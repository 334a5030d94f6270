use Rattle.std.proofs.Common.{[], ◌∷◌, ap, ◌∙◌, arith, rules, tests}
use Rattle.std.specs.Int.{w64, to_le_bytes}
use Rattle.storage_backings.proofs.Bytes.{words_put, odd_put}
use Rattle.storage_backings.proofs.borrowed_bytes.U8WordElement.store.Goals as goal

pub returns-clause-words : goal.returns-clause-words
returns-clause-words c =
    words_put _ _ _ _ _ (omega arith) (omega arith) (c.copy_from_slice.ensures.after ∙ (c.to_le_bytes.ensures ∙ ap (to_le_bytes w64) (search (rules, tests)))) (omega arith)

pub returns-clause-rest : goal.returns-clause-rest
returns-clause-rest c =
    ap (λ odd. odd ∷ []) (odd_put _ _ _ _ _ (omega arith) (omega arith) (c.copy_from_slice.ensures.after ∙ c.to_le_bytes.ensures) (omega arith))
