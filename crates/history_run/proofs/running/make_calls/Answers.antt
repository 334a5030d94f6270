use Rattle.std.proofs.Common.{◌∙◌, arith}
use Rattle.history_run.specs.Made.{next, told}
use Rattle.history_run.proofs.Courses.{course_push, course_all}
use Rattle.history_run.proofs.running.make_calls.Goals as goal

pub loop-call-preserved : goal.loop-call-preserved
loop-call-preserved g c = (
  course_push (next g.P.BackpressurePolicy.acts) (told g.P.BackpressurePolicy.acts) _ _ _ _ _ _ _ _ _ c.loop-call-test.true c.call-item.is c.push_reserved.ensures.items c.loop-call.invariant.0 c.perform.ensures.answer c.perform.ensures.leaves,
  omega arith,
  omega arith,
  c.perform.ensures.outside ∙ c.loop-call.invariant.3,
)

pub returns : goal.returns
returns g c = record { course = course_all (next g.P.BackpressurePolicy.acts) (told g.P.BackpressurePolicy.acts) _ _ _ _ _ c.loop-call-test.false c.loop-call.invariant.0; outside = c.loop-call.invariant.3 }
