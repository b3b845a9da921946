-- `limits::filling::link` meets its contract. The loop's invariant: the last `left` visits are linked. Assumes nothing.
use Rattle.std.specs.Prelude.{ℕ, ◌≡◌, ◌+◌, ◌-◌, ◌%◌, ◌≤◌, ◌<◌, List, cond, get_or}
use lib.ListN.{set}
use native.Mathlib.Omega.{arith}
use mathlib.Core.Path.{refl, ap, ◌∙◌, subst}
use Rattle.limits.specs.Counts.{LinkedBy}
use Rattle.limits.proofs.Links.{none_linked, one_linked, set_most}
use Rattle.limits.proofs.filling.link.Goals as goal
use Rattle.limits.proofs.filling.link.Goals.{then-not-leaves_out, else-not-leaves_out}

pub loop-left-init : goal.loop-left-init
loop-left-init g c =
    let none = c.requires.by_index in
    record { low = λ b h. omega (arith, none b h); linked = λ out f. none_linked out c.args.row.now.places.now c.args.heads.now c.args.nexts.now c.args.row.now.n none }

pub loop-left-preserved : goal.loop-left-preserved
loop-left-preserved g c =
    let r = c.args.row.now in
    let l = c.loop-left in
    let u : ℕ = r.n - (l.left + 1) in
    let b : ℕ = get_or r.places.now u 0 % 1024 in
    let next : ℕ = get_or l.heads b 0 in
    let low : (m : ℕ) → m < 1024 → get_or l.heads m 0 ≤ l.left + 1 = λ m h. omega (arith, l.invariant.low m h) in
    let put : List ℕ = set l.heads b (l.left + 1) in
    let heads : c.if-not-leaves_out.heads ≡ cond c.leaves_out.result l.heads put = elim c.if-not-leaves_out.branch [
      | then-not-leaves_out w ↦ simp w.if-not-leaves_out.true w.heads-is
      | else-not-leaves_out w ↦ simp w.if-not-leaves_out.false w.heads-is
    ] in
    record {
      low = λ m h. elim c.if-not-leaves_out.branch [
        | then-not-leaves_out w ↦ rw w.heads-is (set_most l.heads b (l.left + 1) (l.left + 1) (omega arith) m (low m h))
        | else-not-leaves_out w ↦ rw w.heads-is (low m h)
      ];
      linked = λ out f. one_linked out r.places.now l.heads l.nexts r.n l.left (l.invariant.linked out f) c.loop-left-test.true b refl (omega arith)
          (omega (arith, l.auto.heads, c.requires.heads_len)) (omega (arith, l.auto.nexts, c.requires.heads_len)) c.if-not-leaves_out.heads
          (heads ∙ ap (λ t. cond t l.heads put) (f u c.from.result c.leaves_out.result (omega arith) (omega (arith, low b (omega arith), c.from.ensures)) c.leaves_out.ensures ∙ ap (out u) c.from.ensures));
    }

pub returns : goal.returns
returns g c =
    let r = c.args.row.now in
    let l = c.loop-left in
    let all : l.left ≡ r.n = omega arith in
    λ out f. subst (LinkedBy out r.places.now l.heads l.nexts r.n) all (l.invariant.linked out f)
