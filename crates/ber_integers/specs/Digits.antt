-- Numbers as digits, most significant first, in any base; and a lent output with octets put into it.
-- `natural bs` is the number of the octets bs; `digits 256 n m` are the n low octets of m,
-- and `count 256 m` of them are the fewest that hold it.
use Rattle.std.specs.Prelude.{ℕ, zero, suc, ◌+◌, ◌*◌, ◌/◌, ◌%◌, ◌<◌, List, [], ◌∷◌, ◌++◌, Bool, true, false, length, take, drop, leb, eqb, Option, Some, None}
use Rattle.base_choices.specs.Choices.{pick}

-- each digit is one of the base: `Below 256` says that numbers are octets
abbrev pub Below : ℕ → List ℕ → Type 0
Below base [] = Unit {0}
Below base (d ∷ ds) = (d < base) × Below base ds

-- the number whose first digits made acc and whose further ones are given
unfoldable pub horner : ℕ → ℕ → List ℕ → ℕ
horner base acc [] = acc
horner base acc (d ∷ ds) = horner base (acc * base + d) ds

-- the n low digits of m
unfoldable pub digits : ℕ → ℕ → ℕ → List ℕ
digits base zero m = []
digits base (suc n) m = digits base n (m / base) ++ (m % base ∷ [])

-- how many digits a number has, none for 0; fuel of at least m
unfoldable pub count_by : ℕ → ℕ → ℕ → ℕ
count_by base zero m = 0
count_by base (suc f) m =
    let r : ℕ = suc (count_by base f (m / base)) in
    pick (eqb m 0) 0 r

abbrev pub count : ℕ → ℕ → ℕ
count base m = count_by base m m

-- the natural number of octets
abbrev pub natural : List ℕ → ℕ
natural bs = horner 256 0 bs

-- What a writer answers, and the output after it: its number, 0 or 46, beside the answer.
pub record Put : Type 0 where
  pub answer : Option ℕ
  pub number : ℕ
  pub out : List ℕ

-- for each case of the answer the paper's number: 0 done, 46 OUT
abbrev pub wrote : Option ℕ → ℕ
wrote (Some e) = 0
wrote None = 46

abbrev pub outcome : Option ℕ → List ℕ → Put
outcome r o = record { answer = r; number = wrote r; out = o }

-- "46 the output as they were": refused, and the output unchanged
abbrev pub unchanged : List ℕ → Put
unchanged out = record { answer = None; number = 46; out = out }

-- the octets at a position, all else as it was; 46 if the output is too short
unfoldable pub put : List ℕ → ℕ → List ℕ → Put
put out at bs =
    pick (leb (at + length bs) (length out))
    (record { answer = Some (at + length bs); number = 0; out = take at out ++ (bs ++ drop (at + length bs) out) })
    (unchanged out)
