use Rattle.std.proofs.Common.{◌≡◌, ◌≤◌, length, take, vec_items, vec_len, vec_capacity}
use Rattle.history_run.specs.Course.{Course}
use Rattle.history_run.specs.Made.{held_in, next, told}
use Rattle.history_run.proofs.running.make_calls.Given as goal

abbrev pub invariant-loop-call : goal.invariant-loop-call
invariant-loop-call g l =
    Course (next g.P.BackpressurePolicy.acts) (told g.P.BackpressurePolicy.acts)
    (held_in g.S.DynamicStorage.condition g.S.DynamicStorage.words l.initial.storage l.initial.counters.counts l.initial.waits)
    (take l.call-index l.calls) (vec_items l.answers)
    (held_in g.S.DynamicStorage.condition g.S.DynamicStorage.words l.storage l.counters.counts l.waits)
    × (vec_len l.answers ≡ l.call-index)
    × (length l.calls ≤ vec_capacity l.answers)
    × (g.S.DynamicStorage.outside l.storage ≡ g.S.DynamicStorage.outside l.initial.storage)
