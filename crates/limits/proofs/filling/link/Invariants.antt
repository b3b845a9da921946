-- `limits::filling::link` meets its contract. The loop's invariant: the last `left` visits are linked. Assumes nothing.
use Rattle.std.specs.Prelude.{ℕ, ◌≡◌, ◌≤◌, ◌<◌, Bool, get_or}
use Rattle.limits.specs.Counts.{LinkedBy}
use Rattle.limits.proofs.filling.link.Given as goal

abbrev pub invariant-loop-left : goal.invariant-loop-left
invariant-loop-left g l =
    let r = l.row in
    record {
      low : (b : ℕ) → b < 1024 → get_or l.heads b 0 ≤ l.left;
      linked : (out : ℕ → ℕ → Bool) → ((u left : ℕ) (t : Bool) → u < r.n → left ≤ r.n → goal.F-post g l.leaves_out u left t → t ≡ out u left)
          → LinkedBy out r.places.now l.heads l.nexts r.n l.left;
    }
