-- What the readers' answers say, in document 01's words and numbers. Each answer is an enum; for each of its cases a definition gives what it says:
--     integer_says, natural_says (here), real_says (ber_reals), flag_says (ber_values): content octets judged, one shape, a value or one way to refuse
--     head_says (ber_tags), arc_says and oid_says (ber_identifiers), answer_says (ber_values)
-- The contract of each reader goes through it, and names the number of document 01's row beside the rule: `integer_or 30` and the like.
use Rattle.std.specs.Prelude.{ℕ, ◌≡◌, ℤ, Option, Some, None}

-- 0 and what was read; or the number of a refusal and its place (request 09)
pub data Reading (A : Type 0) : Type 0 where
  done : A → Reading A
  refused : ℕ → ℕ → Reading A

-- What a reader promises of its answer r: it is the rule's, and what it says is what document 01's row says of the rule's.
pub record Promised {A C : Type 0} (says row : A → C) (rule r : A) : Type 0 where
  pub is : r ≡ rule
  pub said : says r ≡ row rule

abbrev pub number_of : {A : Type 0} → Reading A → ℕ
number_of (done x) = 0
number_of (refused number place) = number

-- "30 BER: bad .. value octets", at the tag, whose place the octets alone do not say
abbrev pub integer_says : Option ℤ → ℕ → Reading ℤ
integer_says (Some z) at = done z
integer_says None at = refused 30 at

-- for contracts: the integer that the rule reads, or else this number, at the tag
abbrev pub integer_or : ℕ → Option ℤ → ℕ → Reading ℤ
integer_or number (Some z) at = done z
integer_or number None at = refused number at

abbrev pub natural_says : Option ℕ → ℕ → Reading ℕ
natural_says (Some v) at = done v
natural_says None at = refused 30 at

abbrev pub natural_or : ℕ → Option ℕ → ℕ → Reading ℕ
natural_or number (Some v) at = done v
natural_or number None at = refused number at
