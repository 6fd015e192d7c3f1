-- For the quick answers `shut` and `short`: what stands at a place, told at once where tag and length take one octet each, or where a container
-- ends. They may give up, with a number that is no answer; when they do is left free, and what else they answer is what the general definition gives.
use Rattle.std.specs.Prelude.{ℕ, ◌+◌, ◌/◌, ◌%◌, ◌≤◌, ◌<◌, ◌≡◌, List, length, get_or, ltb, Ok}
use Rattle.base_choices.specs.Choices.{pick}
use Rattle.ber_containers.specs.declared.Open.{Open}
use Rattle.ber_containers.specs.declared.Tag.{Tag}
use Rattle.ber_containers.specs.declared.Stands.TheVariants.{Ended, Here}
use Rattle.ber_containers.specs.Ends.{standing_at}
use Rattle.ber_containers.specs.Passing.{Through}

-- a container by its form and its end
abbrev pub open_by : ℕ → ℕ → Open
open_by definite end = record { definite = definite; end = end }

-- the tag of the first octet b, with the length n (128: indefinite), in a container that ends at `end`
unfoldable pub short_tag : ℕ → ℕ → ℕ → ℕ → Tag
short_tag b start n end =
    record {
      class = b / 64;
      constructed = b % 64 / 32;
      number = b % 32;
      start = start;
      inner = pick (ltb n 128) (record { definite = 1; end = start + n }) (record { definite = 0; end = end });
    }

-- what a quick answer says that tells no place
abbrev pub not_shut : ℕ
not_shut = 18446744073709551615

-- any other answer is the place after the container's end
abbrev pub Shuts : List ℕ → ℕ → Open → ℕ → Type 0
Shuts s p o r = (r ≡ not_shut → ⊥) → (standing_at s p o ≡ Ended r) × (p ≤ r)

-- any answer below 129 is the length of such a tag
pub record Short (s : List ℕ) (p end n : ℕ) : Type 0 where
  pub inside : p + 1 < length s
  pub octet : n ≡ get_or s (p + 1) 0
  pub fits : n < 128 → p + 2 + n ≤ end
  pub stands : (o : Open) → o.end ≡ end → standing_at s p o ≡ Here (short_tag (get_or s p 0) (p + 2) n end)

abbrev pub Shortens : List ℕ → ℕ → ℕ → ℕ → Type 0
Shortens s p end n = n < 129 → Short s p end n

-- any answer that starts at a place is the tag at p
abbrev pub TagTold : List ℕ → ℕ → Open → Tag → Type 0
TagTold s p o t = (t.start ≡ not_shut → ⊥) → standing_at s p o ≡ Here t

-- any answer but not_shut is the place after all that a container holds from a place on
abbrev pub Passes : List ℕ → ℕ → Open → ℕ → ℕ → Type 0
Passes s from o k r = (r ≡ not_shut → ⊥) → (Through s k o from (Ok r)) × (from ≤ r)
