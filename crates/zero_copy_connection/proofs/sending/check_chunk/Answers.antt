use Rattle.std.proofs.Common.{rules}
use Rattle.zero_copy_connection.specs.Sending.{chunk_refusal}
use Rattle.zero_copy_connection.proofs.sending.check_chunk.Goals as goal

pub returns-in_default : goal.returns-in_default
unfolding chunk_refusal
returns-in_default g c = search rules

pub returns-then-sample_size-eq0 : goal.returns-then-sample_size-eq0
unfolding chunk_refusal
returns-then-sample_size-eq0 g c = search rules

pub returns-then-recorded-sample_size : goal.returns-then-recorded-sample_size
unfolding chunk_refusal
returns-then-recorded-sample_size g c = search rules

pub returns-then-offset-sample_size-ne0 : goal.returns-then-offset-sample_size-ne0
unfolding chunk_refusal
returns-then-offset-sample_size-ne0 g c = search rules

pub returns-in_default-mark_place : goal.returns-in_default-mark_place
unfolding chunk_refusal
returns-in_default-mark_place g c = search rules

pub returns-then-is_stated_by : goal.returns-then-is_stated_by
unfolding chunk_refusal
returns-then-is_stated_by g c = search rules

pub returns : goal.returns
unfolding chunk_refusal
returns g c = search rules
