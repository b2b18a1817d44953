use Rattle.std.proofs.Common.{◌≡◌, ◌<◌, get_or, sym, ◌∙◌, subst, arith}
use Rattle.search.proofs.Frontier.{begun, roomy, grown_more, grown_start, slot_new, slot_old, slots_over, ended}
use Rattle.search.proofs.spread.Goals as goal
use Rattle.search.proofs.spread.Goals.{in-Some-slot+then-marks-next-eq0+then-next-from, in-Some-slot+then-marks-next-eq0+else-next-from, in-Some-slot+else-marks-next-eq0, in_default-slot}

pub loop-node-init : goal.loop-node-init
loop-node-init g c =
    rw (c.of-queue.ensures.head, c.of-queue.ensures.tail) (begun _ _ _ _ _ (omega arith) c.of-queue.ensures.first c.requires)

pub loop-node-preserved : goal.loop-node-preserved
loop-node-preserved g c = slots_over c.loop-slot.invariant.1 (omega arith)

pub loop-slot-preserved : goal.loop-slot-preserved
loop-slot-preserved g c =
    let f = c.loop-slot.invariant.1 in
    let head = c.loop-slot.invariant.0 in
    let has : c.loop-slot.slot < g.G.Graph.slots c.args.graph.now c.in-Some.node = omega arith in
    let leads = sym (c.slot.ensures has) in
    elim c.match-slot.branch [
      | in-Some-slot+then-marks-next-eq0+then-next-from w ↦
          let j = w.in-Some-slot.next in
          let z = w.if-marks-next-eq0.true in
          rw (w.marks-is, w.queue-is, w.push.ensures.nodes, w.push.ensures.head, w.push.ensures.tail)
          (head, slot_new f has j (leads ∙ w.in-Some-slot.is) (omega arith) (omega arith) z (grown_more f.front j (omega arith) (omega arith) z w.if-next-from.true (omega (arith, c.loop-slot.queue.long))))
      | in-Some-slot+then-marks-next-eq0+else-next-from w ↦
          let j = w.in-Some-slot.next in
          rw (w.marks-is, w.queue-is)
          (head, slot_new f has j (leads ∙ w.in-Some-slot.is) (omega arith) (omega arith) w.if-marks-next-eq0.true (grown_start f.front j w.if-next-from.false))
      | in-Some-slot+else-marks-next-eq0 w ↦
          rw (w.marks-is, w.queue-is)
          (head, slot_old f (λ j e z. let eq : j ≡ w.in-Some-slot.next = cc (leads, w.in-Some-slot.is) in w.if-marks-next-eq0.false (subst (λ x. get_or c.loop-slot.marks x 0 ≡ 0) eq z)))
      | in_default-slot w ↦
          rw (w.marks-is, w.queue-is)
          (head, slot_old f (λ j e z. cc (leads, w.in_default-slot.is)))
    ]

pub push-requires : goal.push-requires
push-requires g c =
    roomy c.loop-slot.invariant.1.front c.in-Some-slot.next (omega arith) (omega arith) c.if-marks-next-eq0.true c.if-next-from.true

pub returns : goal.returns
returns g c = ended c.loop-node.invariant c.in_default.ensures.next
