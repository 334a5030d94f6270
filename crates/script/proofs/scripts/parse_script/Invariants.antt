use Rattle.std.proofs.Common.{◌≡◌}
use Rattle.std.specs.Iterator.Adapters.{enumerate_count, enumerate_source}
use Rattle.script.specs.Lines.{lines_of}
use Rattle.script.specs.Progress.{sofar}
use Rattle.script.specs.Scripts.{after_lines, parsed_script}
use Rattle.script.proofs.scripts.parse_script.Given as goal

abbrev pub invariant-loop-index : goal.invariant-loop-index
invariant-loop-index l =
    after_lines (enumerate_count l.index-iterator) (sofar l.reading) (lines_of (enumerate_source l.index-iterator).rest.now) ≡ parsed_script l.text
