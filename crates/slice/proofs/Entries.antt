-- An entry more in the log of a plan slice. Assumes nothing.
use Prim.Native.Nat.{ℕ, suc, ◌+◌, ◌*◌, ◌-◌, ◌≤◌, ◌<◌}
use native.Mathlib.Omega.{arith}
use mathlib.Core.Path.{◌≡◌, refl, ap, ap₂, sym, ◌∙◌}
use mathlib.Core.Bool.{Bool, true, ◌&&◌, cond, and-false}
use mathlib.Core.List.{List, [], ◌∷◌, ◌++◌, map-append}
use lib.Dec.{leb, ltb}
use lib.ListN.{length, set, length-append, length-map, length-set, replicate}
use lib.Seq.{sets, set-append_left}
use borrow.Author.Tests.{le-leb, lt-leb, lt-ltb, le-ltb}
use Rattle.words.specs.Words.{word, words, with_word, padded}
use Rattle.words.proofs.Padding.{padded_length, padded_more}
use Rattle.words.proofs.Reading.{word_length, words_length}
use Rattle.words.proofs.Storing.{words_behind}
use Rattle.floor.specs.Tables.{Tables}
use Rattle.schedule.specs.Book.{Report}
use Rattle.slice.specs.PlanSlice.{plan_need, plan_slice}
use Rattle.slice.specs.Entry.{with_entry}
use Rattle.slice.proofs.Slice.{in_a_row, TablesFit, LogFits, carts_of, times_of}

-- ---- stores behind and before other places

-- a store past some places
set_past : (a x : List ℕ) (i v : ℕ) → set (a ++ x) (length a + i) v ≡ a ++ set x i v
set_past [] x i v = let e : 0 + i ≡ i = omega arith in ap (λ (k : ℕ). set x k v) e
set_past (b ∷ a) x i v =
    let e : length (b ∷ a) + i ≡ suc (length a + i) = omega arith in
    ap (λ (k : ℕ). set (b ∷ (a ++ x)) k v) e ∙ ap (λ (l : List ℕ). b ∷ l) (set_past a x i v)

-- stores past m places
sets_past : (a x : List ℕ) (m i : ℕ) (vs : List ℕ) → length a ≡ m → sets (a ++ x) (m + i) vs ≡ a ++ sets x i vs
sets_past a x m i [] e = refl
sets_past a x m i (v ∷ vs) e =
    let next : suc (m + i) ≡ m + suc i = omega arith in
    ap (λ (l : List ℕ). sets l (suc (m + i)) vs) (ap (λ (k : ℕ). set (a ++ x) (k + i) v) (sym e) ∙ set_past a x i v)
    ∙ ap (λ (k : ℕ). sets (a ++ set x i v) k vs) next
    ∙ sets_past a (set x i v) m (suc i) vs e

-- stores before other places
sets_before : (x z : List ℕ) (i : ℕ) (vs : List ℕ) → i + length vs ≤ length x → sets (x ++ z) i vs ≡ sets x i vs ++ z
sets_before x z i [] h = refl
sets_before x z i (v ∷ vs) h =
    ap (λ (l : List ℕ). sets l (suc i) vs) (set-append_left x z i v (omega arith))
    ∙ sets_before (set x i v) z (suc i) vs (omega (arith, length-set x i v))

-- numbers stored behind those in a part of k places
part_more : (k : ℕ) (l vs z : List ℕ) → length l + length vs ≤ k → sets (padded k l ++ z) (length l) vs ≡ padded k (l ++ vs) ++ z
part_more k l vs z h =
    sets_before (padded k l) z (length l) vs (omega (arith, padded_length k l (omega arith)))
    ∙ ap (λ (x : List ℕ). x ++ z) (padded_more k l vs h)

-- ---- five parts

module _ (m k w n : ℕ) (r c p : List ℕ) (fr : length r ≤ m) (fc : length c ≤ m) (fp : length p ≤ m) where
  abbrev five : List ℕ → List ℕ → List ℕ
  five cs ts = padded m r ++ (padded m c ++ (padded m p ++ (padded k cs ++ padded w ts)))

  -- they take as many places whatever is in the last two
  five_length : (cs ts : List ℕ) → length cs ≤ k → length ts ≤ w → length (five cs ts) ≡ m + (m + (m + (k + w)))
  five_length cs ts fk fw =
      let l3 : List ℕ = padded k cs ++ padded w ts in
      let l2 : List ℕ = padded m p ++ l3 in
      let l1 : List ℕ = padded m c ++ l2 in
      omega (
        arith,
        length-append (padded m r) l1,
        length-append (padded m c) l2,
        length-append (padded m p) l3,
        length-append (padded k cs) (padded w ts),
        padded_length m r fr,
        padded_length m c fc,
        padded_length m p fp,
        padded_length k cs fk,
        padded_length w ts fw,
      )

  -- stores past the first three
  past_three : (x : List ℕ) (i : ℕ) (vs : List ℕ)
      → sets (padded m r ++ (padded m c ++ (padded m p ++ x))) (m + (m + (m + i))) vs ≡ padded m r ++ (padded m c ++ (padded m p ++ sets x i vs))
  past_three x i vs =
      sets_past (padded m r) (padded m c ++ (padded m p ++ x)) m (m + (m + i)) vs (padded_length m r fr)
      ∙ ap (λ (y : List ℕ). padded m r ++ y) (sets_past (padded m c) (padded m p ++ x) m (m + i) vs (padded_length m c fc)
      ∙ ap (λ (y : List ℕ). padded m c ++ y) (sets_past (padded m p) x m i vs (padded_length m p fp)))

  -- a number more in the fourth, and some in the fifth
  both_more : (cs ts : List ℕ) (v : ℕ) (ws : List ℕ) → length cs < k → length ts + length ws ≤ w
      → sets (sets (padded n (five cs ts)) (m + (m + (m + length cs))) (v ∷ [])) (m + (m + (m + (k + length ts)))) ws
      ≡ padded n (five (cs ++ (v ∷ [])) (ts ++ ws))
  both_more cs ts v ws hk hw =
      let cs' : List ℕ = cs ++ (v ∷ []) in
      let ts' : List ℕ = ts ++ ws in
      let room : length cs' ≤ k = omega (arith, length-append cs (v ∷ [])) in
      let z : ℕ = n - length (five cs ts) in
      let same : z ≡ n - length (five cs' ts') =
      omega (arith, five_length cs ts (omega arith) (omega arith), five_length cs' ts' room (omega (arith, length-append ts ws))) in
      ap (λ (s : List ℕ). sets (sets s (m + (m + (m + length cs))) (v ∷ [])) (m + (m + (m + (k + length ts)))) ws) (in_a_row m k w n r c p cs ts fr fc fp (omega arith))
      ∙ ap (λ (s : List ℕ). sets s (m + (m + (m + (k + length ts)))) ws)
      (past_three (padded k cs ++ (padded w ts ++ replicate z 0)) (length cs) (v ∷ [])
      ∙ ap (λ (x : List ℕ). padded m r ++ (padded m c ++ (padded m p ++ x))) (part_more k cs (v ∷ []) (padded w ts ++ replicate z 0) (omega arith)))
      ∙ past_three (padded k cs' ++ (padded w ts ++ replicate z 0)) (k + length ts) ws
      ∙ ap (λ (x : List ℕ). padded m r ++ (padded m c ++ (padded m p ++ x)))
      (sets_past (padded k cs') (padded w ts ++ replicate z 0) k (length ts) ws (padded_length k cs' room)
      ∙ ap (λ (x : List ℕ). padded k cs' ++ x) (part_more w ts ws (replicate z 0) hw ∙ ap (λ (i : ℕ). padded w ts' ++ replicate i 0) same))
      ∙ sym (in_a_row m k w n r c p cs' ts' fr fc fp room)

-- ---- an entry

-- one that has room is written
entry_there : (s : List ℕ) (i : ℕ) (r : Report) → plan_need ≤ length s → i < 4096
    → with_entry s i r ≡ sets (sets s (196_608 + i) (r.cart ∷ [])) (200_704 + 8 * i) (word 8 r.time)
unfolding with_entry with_word
entry_there s i r h k =
    let s' : List ℕ = set s (196_608 + i) r.cart in
    let room : leb (8 * suc (25_088 + i)) (length s') ≡ true = le-leb (8 * suc (25_088 + i)) (length s') (omega (arith, length-set s (196_608 + i) r.cart)) in
    let place : 8 * (25_088 + i) ≡ 200_704 + 8 * i = omega arith in
    ap (λ (b : Bool). cond (b && ltb i 4096) (with_word 8 s' (25_088 + i) r.time) s) (le-leb plan_need (length s) h)
    ∙ ap (λ (b : Bool). cond b (with_word 8 s' (25_088 + i) r.time) s) (lt-ltb i 4096 k)
    ∙ ap (λ (b : Bool). cond b (sets s' (8 * (25_088 + i)) (word 8 r.time)) s') room
    ∙ ap (λ (j : ℕ). sets s' j (word 8 r.time)) place

-- no room: the slice stays as it came
pub entry_short : (s : List ℕ) (i : ℕ) (r : Report) → length s < plan_need → s ≡ with_entry s i r
unfolding with_entry
entry_short s i r h = sym (ap (λ (b : Bool). cond (b && ltb i 4096) (with_word 8 (set s (196_608 + i) r.cart) (25_088 + i) r.time) s) (lt-leb plan_need (length s) h))

pub entry_past : (s : List ℕ) (i : ℕ) (r : Report) → 4096 ≤ i → s ≡ with_entry s i r
unfolding with_entry
entry_past s i r h =
    sym (ap (λ (b : Bool). cond (leb plan_need (length s) && b) (with_word 8 (set s (196_608 + i) r.cart) (25_088 + i) r.time) s) (le-ltb i 4096 h)
    ∙ ap (λ (b : Bool). cond b (with_word 8 (set s (196_608 + i) r.cart) (25_088 + i) r.time) s) (and-false (leb plan_need (length s))))

-- else it is stored
pub entry_put : (s t : List ℕ) (i : ℕ) (r : Report) → plan_need ≤ length s → i < 4096
    → t ≡ with_word 8 (set s (196_608 + i) r.cart) (25_088 + i) r.time → t ≡ with_entry s i r
unfolding with_entry
entry_put s t i r h k e =
    e ∙ sym (ap (λ (b : Bool). cond (b && ltb i 4096) (with_word 8 (set s (196_608 + i) r.cart) (25_088 + i) r.time) s) (le-leb plan_need (length s) h)
    ∙ ap (λ (b : Bool). cond b (with_word 8 (set s (196_608 + i) r.cart) (25_088 + i) r.time) s) (lt-ltb i 4096 k))

-- behind the entries of a log it makes the log one report longer
pub entry_added : (n : ℕ) (ts : Tables) (log : List Report) (r : Report) → TablesFit ts → LogFits (log ++ (r ∷ [])) → plan_need ≤ length (plan_slice n ts log)
    → with_entry (plan_slice n ts log) (length log) r ≡ plan_slice n ts (log ++ (r ∷ []))
unfolding plan_slice
entry_added n ts log r tf lf h =
    let cs : List ℕ = carts_of log in
    let ws : List ℕ = words 8 (times_of log) in
    let few : length log < 4096 = omega (arith, lf.short, length-append log (r ∷ [])) in
    let as-carts : length log ≡ length cs = sym (length-map log (λ (x : Report). x.cart)) in
    let as-times : 8 * length log ≡ length ws = omega (arith, words_length 8 (times_of log), length-map log (λ (x : Report). x.time)) in
    let carts-place : 196_608 + length log ≡ 65_536 + (65_536 + (65_536 + length cs)) = omega arith in
    let times-place : 200_704 + 8 * length log ≡ 65_536 + (65_536 + (65_536 + (4096 + length ws))) = omega arith in
    entry_there (plan_slice n ts log) (length log) r h few
    ∙ ap₂ (λ (i j : ℕ). sets (sets (plan_slice n ts log) i (r.cart ∷ [])) j (word 8 r.time)) carts-place times-place
    ∙ both_more 65_536 4096 32_768 n ts.roads ts.carts ts.paths tf.roads_short tf.carts_short tf.paths_short cs ws r.cart (word 8 r.time)
    (omega (arith, as-carts)) (omega (arith, as-times, word_length 8 r.time))
    ∙ ap₂ (λ (x y : List ℕ). padded n (padded 65_536 ts.roads ++ (padded 65_536 ts.carts ++ (padded 65_536 ts.paths ++ (padded 4096 x ++ padded 32_768 y)))))
    (sym (map-append (λ (x : Report). x.cart) log (r ∷ [])))
    (sym (ap (words 8) (map-append (λ (x : Report). x.time) log (r ∷ [])) ∙ words_behind 8 (times_of log) r.time))
