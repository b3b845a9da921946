-- Texts that document 01 prints, and numbers of several lengths. Assumes nothing.
use Rattle.std.specs.Prelude.{None}
use Prim.Native.Nat.{ℕ}
use mathlib.Core.Path.{◌≡◌, refl}
use mathlib.Core.List.{[], ◌∷◌, map}
use lib.ListN.{get_or}
use Rattle.rfc4180.specs.Text.{bytes}
use Rattle.floor.specs.Plan.{Plan}
use Rattle.printing.specs.Text.{shown, times_text, refusal_text}
use Rattle.printing.specs.Open.{open_printing}

-- numbers
numbers_follow : map shown (0 ∷ 7 ∷ 10 ∷ 4096 ∷ 65_534 ∷ 1_000_000_000_000 ∷ 18_446_744_073_709_551_615 ∷ [])
    ≡ bytes "0" ∷ bytes "7" ∷ bytes "10" ∷ bytes "4096" ∷ bytes "65534" ∷ bytes "1000000000000" ∷ bytes "18446744073709551615" ∷ []
unfolding open_printing
numbers_follow = refl

-- "One cart, 250,000, path A B"
one_cart : Plan
one_cart =
    record {
      roads = record { from = 0; to = 1; length = 1_000_000; margin = 250_000 } ∷ [];
      carts = record { fastest = 250_000; slowest = None } ∷ [];
      paths = (0 ∷ 1 ∷ []) ∷ [];
    }

-- "Without that report the program prints, whole"
times_follow : times_text one_cart (λ (e : ℕ). get_or (0 ∷ 0 ∷ 1000 ∷ 3000 ∷ 4000 ∷ 4000 ∷ []) e 0)
    ≡ bytes "event,cart,cell,time\r\n0,0,,0\r\n1,1,0,0\r\n2,1,0,1000\r\n3,1,1,3000\r\n4,1,1,4000\r\n5,0,,4000\r\n"
unfolding open_printing one_cart
times_follow = refl

-- a wait leaves no line, and the second cart's events follow the first's
two_carts : Plan
two_carts =
    record {
      roads = record { from = 0; to = 1; length = 1_000_000; margin = 250_000 } ∷ [];
      carts = record { fastest = 250_000; slowest = None } ∷ record { fastest = 62_500; slowest = None } ∷ [];
      paths = (0 ∷ 0 ∷ []) ∷ (1 ∷ 2 ∷ []) ∷ [];
    }

second_follows : times_text two_carts (λ (e : ℕ). e)
    ≡ bytes "event,cart,cell,time\r\n0,0,,0\r\n1,1,0,1\r\n2,2,1,2\r\n3,2,1,3\r\n4,2,2,4\r\n5,2,2,5\r\n6,0,,6\r\n"
unfolding open_printing two_carts
second_follows = refl

-- refusals: "the last two fields empty where the table is 0: `13,,`"
refusals_follow : refusal_text 13 0 0 ∷ refusal_text 2 1 3 ∷ refusal_text 5 2 0 ∷ []
    ≡ bytes "refusal,table,record\r\n13,,\r\n" ∷ bytes "refusal,table,record\r\n2,1,3\r\n" ∷ bytes "refusal,table,record\r\n5,2,0\r\n" ∷ []
unfolding open_printing
refusals_follow = refl
