-- The whole call: what is lent, what the text holds, and the message.
use Prim.Native.Nat.{ℕ, ◌≤◌}
use mathlib.Core.Path.{◌≡◌, refl, sym, ap, ◌∙◌}
use mathlib.Core.List.{List}
use mathlib.Core.Bool.{Bool, true, false}
use borrow.Author.Tests.{eq-eqb, ne_eqb}
use lib.Dec.{eqb}
use lib.ListN.{length, take}
use Rattle.framing_content.specs.Numbers.{store_length}
use Rattle.base_choices.specs.Choices.{both}
use Rattle.desk_crosspoints.specs.Figures.{most_cells}
use Rattle.sheet_rules.specs.Lines.{lines_in}
use Rattle.sheet_rules.specs.Reading.{Held, refusal, message, held_in, of_held, of_message, read_sheet}
use Rattle.sheet_stream.specs.declared.Found.{Found}
use Rattle.sheet_stream.specs.declared.Found.TheVariants as found
use Rattle.sheet_stream.proofs.Messages.{held-short}
use Rattle.sheet_stream.proofs.Answers as answers
use Rattle.sheet_stream.specs.Finding.{holds, store_after, finds, found_by}
use Rattle.sheet_reader.specs.declared.Sheet.{Sheet}
use Rattle.sheet_reader.specs.declared.Sheet.TheVariants.{Setup, Refused}
use Rattle.sheet_reader.specs.Calls.{setup, Outcome, outcome, leaves, is_ready, sheet_read, outcome_of}
use Rattle.sheet_reader.specs.Steps.{Tells}

both-no : (a b : Bool) → b ≡ false → both a b ≡ false
both-no true b h = h
both-no false b h = refl

module _ (text store : List ℕ) (path cells : List ℕ) where
  abbrev whole : Outcome
  whole = sheet_read text store path cells

  not-ready : is_ready store path cells ≡ false → whole ≡ outcome 1 setup store path cells
  unfolding sheet_read
  not-ready h = rw h

  -- ---- "1 SETUP, first of all"

  pub setup-path : (length path ≡ 16 → ⊥) → whole ≡ outcome_of Setup store path cells
  unfolding is_ready
  setup-path h = not-ready (both-no (eqb (length store) store_length) _ (rw (ne_eqb _ _ h)))

  module _ (p : length path ≡ 16) where
    pub setup-cells : (length cells ≡ most_cells → ⊥) → whole ≡ outcome_of Setup store path cells
    unfolding is_ready
    setup-cells h = not-ready (both-no (eqb (length store) store_length) _ (rw (eq-eqb _ _ p, ne_eqb _ _ h)))

    module _ (c : length cells ≡ most_cells) where
      setup-store : (length store ≡ store_length → ⊥) → whole ≡ outcome_of Setup store path cells
      unfolding is_ready
      setup-store h = not-ready (rw (ne_eqb _ _ h))

      is_read_lem : length store ≡ store_length → whole ≡ leaves (read_sheet text) (store_after (lines_in text) store) path cells
      unfolding sheet_read is_ready
      is_read_lem h = rw (eq-eqb _ _ h, eq-eqb _ _ p, eq-eqb _ _ c)

      module _ (r : Found) (store' : List ℕ) (q : finds text store ≡ found_by r store') where
        -- the store
        pub found-setup : r ≡ found.Setup → whole ≡ outcome_of Setup store' path cells
        found-setup h =
            let k = answers.found-setup text store store' (q ∙ ap (λ (y : Found). found_by y store') h) in
            setup-store k.0 ∙ ap (λ (s : List ℕ). outcome 1 setup s path cells) k.1

        held : (h : Held) → found_by r store' ≡ holds h store' → (held_in (lines_in text) ≡ h) × (whole ≡ leaves (of_held h) store' path cells)
        unfolding read_sheet
        held h e =
            let k = answers.found-holds text store store' h (q ∙ e) in (
              k.1.0,
              is_read_lem k.0 ∙ ap (λ (x : Held). leaves (of_held x) (store_after (lines_in text) store) path cells) k.1.0
                  ∙ ap (λ (s : List ℕ). leaves (of_held h) s path cells) k.1.1,
            )

        -- the first half's refusals
        pub found-refused : (n : ℕ) → r ≡ found.Refused n → whole ≡ outcome_of (Refused n) store' path cells
        found-refused n h = (held (refusal n) (ap (λ (y : Found). found_by y store') h)).1

        -- a message
        module _ (n : ℕ) (h : r ≡ found.Message n) (k : ℕ) (same : take k store' ≡ take n store') where
          holds-message : (held_in (lines_in text) ≡ message (take k store')) × (whole ≡ leaves (of_message (take k store')) store' path cells)
          holds-message =
              held (message (take k store'))
              (ap (λ (y : Found). found_by y store') h ∙ ap (λ (m : List ℕ). holds (message m) store') (sym same))

          pub message-short : length (take k store') ≤ 16384
          message-short = held-short text (take k store') holds-message.0

          pub message-told : (x : Sheet) (path' cells' : List ℕ) → Tells (of_message (take k store')) path cells x path' cells'
              → whole ≡ outcome_of x store' path' cells'
          message-told x path' cells' t = holds-message.1 ∙ t store'
