-- `slice::parts::text_length` meets its contract: no block passed has a zero, and the first zero behind them ends the text. Assumes nothing.
use Rattle.std.proofs.Common.{rules, tests, arith, ◌≡◌, ◌∙◌, ◌+◌, ◌*◌, ◌-◌, ◌/◌, ℕ, List, length, take, drop, ap, sym, subst, min, eqb, take_all, length-drop}
use Rattle.std.proofs.lemmas.Iterator.{YieldsList-from_slice}
use Rattle.std.proofs.lemmas.Iterator.Search.{position_from_yields_List}
use Rattle.std.specs.List.{fold, position, position_or_len}
use Rattle.std.specs.Simd.{first_chunks}
use Rattle.slice.specs.PlanSlice.{until_zero}
use Rattle.slice.proofs.Laid.{found_or, blocks_pass, before_zero, text_short}
use Rattle.slice.proofs.parts.text_length.Goals as goal
use Rattle.slice.proofs.parts.text_length.Goals.{After-unwrap_or}

-- the bytes of the blocks passed are all of the text
passed : (c : After-unwrap_or) → let s = c.args.s.now in let at = 64 * c.unwrap_or-passed.result in length (until_zero s) ≡ at + length (until_zero (drop at s))
passed c =
    let s : List ℕ = c.args.s.now in
    let blocks : List (List ℕ) = c.as_chunks.result.0.now in
    let found : c.position.result ≡ position (λ (b : List ℕ). eqb (fold min 255 b) 0) blocks =
    position_from_yields_List (λ (b : List ℕ). eqb (fold min 255 b) 0) _ _ _ c.position.ensures.ran (YieldsList-from_slice blocks cc) (λ x b q k. search (rules, tests)) in
    let many : c.unwrap_or-passed.result ≡ position_or_len (λ (b : List ℕ). eqb (fold min 255 b) 0) (first_chunks 64 (length s / 64) s) =
    c.unwrap_or-passed.ensures ∙ found_or (λ (b : List ℕ). eqb (fold min 255 b) 0) blocks c.position.result found
    ∙ ap (λ (bs : List (List ℕ)). position_or_len (λ (b : List ℕ). eqb (fold min 255 b) 0) bs) c.as_chunks.ensures.front in
    subst (λ (n : ℕ). length (until_zero s) ≡ 64 * n + length (until_zero (drop (64 * n) s))) (sym many) (blocks_pass (length s / 64) s (omega arith)).1

pub returns : goal.returns
returns c =
    let s : List ℕ = c.args.s.now in
    let at : ℕ = 64 * c.unwrap_or-passed.result in
    let rest : List ℕ = take (length s - at) (drop at s) in
    let last : c.unwrap_or.result ≡ length (until_zero rest) = c.unwrap_or.ensures ∙ before_zero rest c.first_zero.result c.first_zero.ensures in
    let whole : rest ≡ drop at s = take_all (length s - at) (drop at s) (omega (arith, length-drop at s)) in
    let all : at + c.unwrap_or.result ≡ length (until_zero s) = omega (arith, last, ap (λ (x : List ℕ). length (until_zero x)) whole, passed (goal.at.returns c).After-unwrap_or) in
    record { value = all; within = omega (arith, all, text_short s) }
