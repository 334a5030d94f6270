use Rattle.std.proofs.Common.{rules, true-eqb, false-eqb, sym, ◌∙◌}
use Rattle.script.proofs.Cuts.{first_word, no_word, with_word_some}
use Rattle.script.proofs.words.WordsIterator.next.Goals as goal

pub returns-then-is_empty-clause-steps : goal.returns-then-is_empty-clause-steps
returns-then-is_empty-clause-steps c =
    no_word _ c.split_before.result.0.now c.split_before.result.1.now _ _ c.split_before.ensures.whole c.split_before-2.ensures.whole
    (λ k d l. let h = c.split_before.ensures.front k d l in search rules) (search rules) (search rules) (true-eqb _ 0 c.if-is_empty.ensures)

pub returns-else-is_empty-clause-steps : goal.returns-else-is_empty-clause-steps
returns-else-is_empty-clause-steps c =
    first_word _ c.split_before.result.0.now c.split_before.result.1.now _ _ c.split_before.ensures.whole c.split_before-2.ensures.whole
    (λ k d l. let h = c.split_before.ensures.front k d l in search rules) (λ k d l. sym (c.split_before-2.ensures.front k d l)) (search rules)
    ∙ with_word_some c.split_before-2.result.0.now _ (false-eqb _ 0 c.if-is_empty.ensures)
