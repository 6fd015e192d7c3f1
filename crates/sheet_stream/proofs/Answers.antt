-- What a caller learns from an answer.
use Prim.Native.Nat.{ℕ}
use mathlib.Core.Path.{◌≡◌, refl, sym, ap}
use mathlib.Core.List.{List}
use mathlib.Core.Bool.{Bool, true, false, true≢false}
use borrow.Author.Tests.{eqb-true, eqb-false}
use lib.Dec.{eqb}
use lib.ListN.{length}
use Rattle.base_choices.specs.Choices.{pick}
use Rattle.framing_content.specs.Numbers.{store_length}
use Rattle.sheet_rules.specs.Lines.{lines_in}
use Rattle.sheet_rules.specs.Reading.{Held, held_in}
use Rattle.sheet_stream.specs.declared.Found.TheVariants.{Setup}
use Rattle.sheet_stream.specs.Finding.{Outcome, setup, holds, store_after, finds, found_by}

abbrev is_setup : Outcome → Bool
is_setup (setup t) = true
is_setup (holds h t) = false

abbrev held_of : Outcome → Held → Held
held_of (setup t) other = other
held_of (holds h t) other = h

abbrev store_of : Outcome → List ℕ → List ℕ
store_of (setup t) other = t
store_of (holds h t) other = t

module _ (text t t' : List ℕ) where
  pub found-holds : (h : Held) → finds text t ≡ holds h t' → (length t ≡ store_length) × ((held_in (lines_in text) ≡ h) × (store_after (lines_in text) t ≡ t'))
  unfolding finds
  found-holds h e = go (eqb (length t) store_length) refl e
    where
      go : (u : Bool) → eqb (length t) store_length ≡ u → pick u (holds (held_in (lines_in text)) (store_after (lines_in text) t)) (setup t) ≡ holds h t'
          → (length t ≡ store_length) × ((held_in (lines_in text) ≡ h) × (store_after (lines_in text) t ≡ t'))
      go true q k = (eqb-true _ _ q, (ap (λ (x : Outcome). held_of x h) k, ap (λ (x : Outcome). store_of x t) k))
      go false q k = absurd (true≢false (ap is_setup k))

  pub found-setup : finds text t ≡ found_by Setup t' → (length t ≡ store_length → ⊥) × (t ≡ t')
  unfolding finds
  found-setup e = go (eqb (length t) store_length) refl e
    where
      go : (u : Bool) → eqb (length t) store_length ≡ u → pick u (holds (held_in (lines_in text)) (store_after (lines_in text) t)) (setup t) ≡ setup t'
          → (length t ≡ store_length → ⊥) × (t ≡ t')
      go true q k = absurd (true≢false (sym (ap is_setup k)))
      go false q k = (eqb-false _ _ q, ap (λ (x : Outcome). store_of x t') k)
