-- Tables written into a slice of zeros, one after the other. Assumes nothing.
use Prim.Native.Nat.{ℕ, ◌+◌, ◌-◌, ◌≤◌}
use native.Mathlib.Omega.{arith}
use mathlib.Core.Path.{◌≡◌, ap, ap₂, sym, ◌∙◌}
use mathlib.Core.List.{List, [], ◌++◌, append_assoc}
use lib.ListN.{length, drop, replicate, length-append, replicate-append-replicate}
use lib.Seq.{take_at, drop_at}
use borrow.Rule.Slice.PartMut.{put_mid}
use Rattle.words.specs.Words.{words, written, padded}
use Rattle.words.proofs.Padding.{padded_none, padded_length, written_zeros, padded_split}
use Rattle.floor.specs.Tables.{Tables}
use Rattle.slice.specs.PlanSlice.{plan_slice}

-- ---- into zeros

-- what follows the m places of a part
zeros_behind : (m n : ℕ) (a l : List ℕ) → length a ≡ m → (written l (drop m (a ++ replicate (n - m) 0))) ≡ padded (n - m) l
zeros_behind m n a l e = ap (written l) (drop_at a (replicate (n - m) 0) m e) ∙ written_zeros (n - m) l

-- bytes put into a slice at place m, where zeros follow
part_written : (m n k : ℕ) (a s l : List ℕ) → length a ≡ m → s ≡ a ++ replicate (n - m) 0 → k ≡ length l → put_mid m k s l ≡ a ++ padded (n - m) l
unfolding written
part_written m n k a s l e q same =
    ap₂ (λ (j : ℕ) (x : List ℕ). put_mid m j x l) same q
    ∙ ap (λ (x : List ℕ). x ++ (l ++ drop (length l) (drop m (a ++ replicate (n - m) 0)))) (take_at a (replicate (n - m) 0) m e)
    ∙ ap (λ (x : List ℕ). a ++ x) (zeros_behind m n a l e)

-- the parts of a log without reports are zeros, and so is what follows
no_log : (k w n : ℕ) → replicate {A = ℕ} (k + (w + n)) 0 ≡ padded k [] ++ (padded w [] ++ replicate n 0)
no_log k w n =
    sym (replicate-append-replicate k (w + n) 0) ∙ ap (λ (x : List ℕ). replicate k 0 ++ x) (sym (replicate-append-replicate w n 0))
    ∙ ap₂ (λ (x y : List ℕ). x ++ (y ++ replicate n 0)) (sym (padded_none k)) (sym (padded_none w))

-- five parts in a row, and zeros
parts : (m k w n : ℕ) (r c p : List ℕ) → m + (m + (m + (k + w))) ≤ n → length r ≤ m → length c ≤ m → length p ≤ m
    → (padded m r ++ padded m c) ++ padded (n - (m + m)) p ≡ padded n (padded m r ++ (padded m c ++ (padded m p ++ (padded k [] ++ padded w []))))
unfolding padded
parts m k w n r c p h a b d =
    let all : List ℕ = padded m r ++ (padded m c ++ (padded m p ++ (padded k [] ++ padded w []))) in
    let z : List ℕ = replicate (n - length all) 0 in
    let size : length all ≡ m + (m + (m + (k + w))) =
    omega (
      arith,
      length-append (padded m r) (padded m c ++ (padded m p ++ (padded k [] ++ padded w []))),
      length-append (padded m c) (padded m p ++ (padded k [] ++ padded w [])),
      length-append (padded m p) (padded k [] ++ padded w []),
      length-append (padded k []) (padded w []),
      padded_length m r a,
      padded_length m c b,
      padded_length m p d,
      padded_length k [] (omega arith),
      padded_length w [] (omega arith),
    ) in
    let zeros : n - (m + m) - m ≡ k + (w + (n - length all)) = omega (arith, size) in
    ap (λ (x : List ℕ). (padded m r ++ padded m c) ++ x)
    (padded_split m (n - (m + m)) p d (omega arith) ∙ ap (λ (i : ℕ). padded m p ++ replicate i 0) zeros ∙ ap (λ (x : List ℕ). padded m p ++ x) (no_log k w (n - length all)))
    ∙ append_assoc (padded m r) (padded m c) (padded m p ++ (padded k [] ++ (padded w [] ++ z)))
    ∙ sym (
    append_assoc (padded m r) (padded m c ++ (padded m p ++ (padded k [] ++ padded w []))) z
    ∙ ap (λ (x : List ℕ). padded m r ++ x) (append_assoc (padded m c) (padded m p ++ (padded k [] ++ padded w [])) z
    ∙ ap (λ (x : List ℕ). padded m c ++ x) (append_assoc (padded m p) (padded k [] ++ padded w []) z
    ∙ ap (λ (x : List ℕ). padded m p ++ x) (append_assoc (padded k []) (padded w []) z))))

-- three tables, each in its part, and zeros
pub three_parts : (n : ℕ) (ts : Tables) → 233_472 ≤ n → length ts.roads ≤ 65_536 → length ts.carts ≤ 65_536 → length ts.paths ≤ 65_536
    → (padded 65_536 ts.roads ++ padded 65_536 ts.carts) ++ padded (n - 131_072) ts.paths ≡ plan_slice n ts []
unfolding plan_slice words
three_parts n ts h a b c = parts 65_536 4096 32_768 n ts.roads ts.carts ts.paths h a b c

-- two parts of m places each, and a third table behind them
two_parts : (m n j k : ℕ) (r c p : List ℕ) → m + m ≤ n → length r ≤ m → length c ≤ m → j ≡ length c → k ≡ length p
    → put_mid (m + m) k (put_mid m j (padded n r) c) p ≡ (padded m r ++ padded m c) ++ padded (n - (m + m)) p
two_parts m n j k r c p h a b ej ek =
    let first : put_mid m j (padded n r) c ≡ (padded m r ++ padded m c) ++ replicate (n - (m + m)) 0 =
    part_written m n j (padded m r) (padded n r) c (padded_length m r a) (padded_split m n r a (omega arith)) ej
    ∙ ap (λ (x : List ℕ). padded m r ++ x) (padded_split m (n - m) c b (omega arith))
    ∙ sym (append_assoc (padded m r) (padded m c) (replicate (n - m - m) 0))
    ∙ ap (λ (i : ℕ). (padded m r ++ padded m c) ++ replicate i 0) {x = n - m - m} {y = n - (m + m)} (omega arith) in
    part_written (m + m) n k (padded m r ++ padded m c) (put_mid m j (padded n r) c) p
    (omega (arith, length-append (padded m r) (padded m c), padded_length m r a, padded_length m c b)) first ek

-- the tables, written one after the other into zeros
pub tables_stored : (n j k : ℕ) (ts : Tables) (s r c p : List ℕ) → 233_472 ≤ n → length ts.roads ≤ 65_536 → length ts.carts ≤ 65_536 → length ts.paths ≤ 65_536
    → s ≡ replicate n 0 → r ≡ ts.roads → c ≡ ts.carts → p ≡ ts.paths → j ≡ length ts.carts → k ≡ length ts.paths
    → put_mid 131_072 k (put_mid 65_536 j (r ++ drop (length ts.roads) s) c) p ≡ plan_slice n ts []
unfolding written
tables_stored n j k ts s r c p h hr hc hp zeros er ec ep ej ek =
    ap₂ (λ (x y : List ℕ). put_mid 131_072 k (put_mid 65_536 j (r ++ drop (length ts.roads) s) x) y) ec ep
    ∙ ap (λ (x : List ℕ). put_mid 131_072 k (put_mid 65_536 j x ts.carts) ts.paths)
    (ap₂ (λ (x y : List ℕ). x ++ drop (length ts.roads) y) er zeros ∙ written_zeros n ts.roads)
    ∙ two_parts 65_536 n j k ts.roads ts.carts ts.paths (omega arith) hr hc ej ek ∙ three_parts n ts h hr hc hp
