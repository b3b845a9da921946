-- Records, fields and numbers of some texts. Assumes nothing.
use Rattle.std.specs.Prelude.{Option, None, Some}
use Prim.Native.Nat.{ℕ}
use Prim.Native.String.{String}
use mathlib.Core.Path.{◌≡◌, refl}
use mathlib.Core.List.{List, [], ◌∷◌, map}
use Rattle.rfc4180.specs.Text.{bytes}
use Rattle.rfc4180.specs.Records.{records, first_record, fields, field_at}
use Rattle.rfc4180.specs.Number.{number, greatest, leading, capped}
use Rattle.rfc4180.specs.Open.{open_rfc4180}

-- a text's pieces, and those that are expected of it
record Split : Type 0 where
  text : String
  gives : List String

-- "Records end in CR LF; the last may end without it. Zero bytes hold no record."
record_rows : List Split
record_rows =
    record { text = ""; gives = [] }
    ∷ record { text = "a"; gives = "a" ∷ [] }
    ∷ record { text = "a\r\n"; gives = "a" ∷ [] }
    ∷ record { text = "a\r\nb"; gives = "a" ∷ "b" ∷ [] }
    ∷ record { text = "\r\n"; gives = "" ∷ [] }
    ∷ record { text = "a\r\n\r\nb\r\n"; gives = "a" ∷ "" ∷ "b" ∷ [] }
    ∷ record { text = "a\nb\rc"; gives = "a\nb\rc" ∷ [] }
    ∷ record { text = "a\r\r\n\nb"; gives = "a\r" ∷ "\nb" ∷ [] }
    ∷ []

records_follow : map (λ (r : Split). records (bytes r.text)) record_rows ≡ map (λ (r : Split). map bytes r.gives) record_rows
unfolding open_rfc4180 record_rows
records_follow = refl

field_rows : List Split
field_rows =
    record { text = ""; gives = "" ∷ [] }
    ∷ record { text = "ab"; gives = "ab" ∷ [] }
    ∷ record { text = "ab,"; gives = "ab" ∷ "" ∷ [] }
    ∷ record { text = ",ab"; gives = "" ∷ "ab" ∷ [] }
    ∷ record { text = "0,12,,3"; gives = "0" ∷ "12" ∷ "" ∷ "3" ∷ [] }
    ∷ []

fields_follow : map (λ (r : Split). fields (bytes r.text)) field_rows ≡ map (λ (r : Split). map bytes r.gives) field_rows
unfolding open_rfc4180 field_rows
fields_follow = refl

-- "A number is "0" or up to ten decimal digits of which the first is not 0."
record Number : Type 0 where
  text : String
  gives : Option ℕ

number_rows : List Number
number_rows =
    record { text = "0"; gives = Some 0 }
    ∷ record { text = "9"; gives = Some 9 }
    ∷ record { text = "10"; gives = Some 10 }
    ∷ record { text = "9876543210"; gives = Some 9_876_543_210 }
    ∷ record { text = ""; gives = None }
    ∷ record { text = "00"; gives = None }
    ∷ record { text = "01"; gives = None }
    ∷ record { text = "11111111111"; gives = None }
    ∷ record { text = "-1"; gives = None }
    ∷ record { text = "1/"; gives = None }
    ∷ record { text = "1:"; gives = None }
    ∷ record { text = " 1"; gives = None }
    ∷ []

numbers_follow : map (λ (r : Number). number (bytes r.text)) number_rows ≡ map (λ (r : Number). r.gives) number_rows
unfolding open_rfc4180 number_rows
numbers_follow = refl

-- the first record of a rest, the field at a place, also past the end
parts_follow : first_record (bytes "0,1\r\n2") ∷ first_record (bytes "2") ∷ first_record [] ∷ field_at (bytes "0,12,3") 2 ∷ field_at (bytes "0,12,3") 9 ∷ []
    ≡ bytes "0,1" ∷ bytes "2" ∷ [] ∷ bytes "12" ∷ [] ∷ []
unfolding open_rfc4180
parts_follow = refl

-- the numbers before a field that is none, the greatest of some, and one that four bytes do not hold
leading_follow : leading (fields (bytes "7,12,x,3")) ∷ (greatest (3 ∷ 12 ∷ 7 ∷ []) ∷ greatest [] ∷ []) ∷ map capped (65_535 ∷ 9_999_999_999 ∷ []) ∷ []
    ≡ (7 ∷ 12 ∷ []) ∷ (12 ∷ 0 ∷ []) ∷ (65_535 ∷ 4_294_967_295 ∷ []) ∷ []
unfolding open_rfc4180
leading_follow = refl
