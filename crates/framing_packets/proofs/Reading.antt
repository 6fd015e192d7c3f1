-- What the rules of framing do at the bytes that the writer writes, and over one run of bytes after another.
use Prim.Native.Nat.{ℕ, ◌+◌, ◌-◌, ◌≤◌, ◌<◌}
use mathlib.Core.Bool.{Bool, true, false}
use mathlib.Core.List.{List, [], ◌∷◌, ◌++◌, append_assoc, append-nil}
use mathlib.Core.Logic.{◌⊎◌, inl, inr, ⊎_elim}
use mathlib.Core.Path.{◌≡◌, refl, sym, ap, ◌∙◌}
use native.Mathlib.Omega.{arith}
use borrow.Author.Tests.{lt-ltb, le-ltb, lt-leb, ne_eqb, ltb-true, ltb-false}
use lib.Bits.{bit_xor, xor_block, xor_zero_r}
use lib.Dec.{ltb, eqb}
use lib.ListN.{length, length-append}
use Rattle.framing_content.specs.Numbers.{BOF, EOF, CE, content_limit}
use Rattle.framing_session.specs.Rules.{Place, outside, stray, inside, escaped, Message, State, Step, Happening, goes, adds, ends, cuts}
use Rattle.framing_session.specs.Rules.{in_place, step, happens, after}
use Rattle.framing_session.proofs.Stream.{happens-append, after-append}
use Rattle.framing_packets.specs.Written.{escape, escapes}
use Rattle.framing_packets.proofs.Laws.{escape-plain, escape-high}
use Rattle.framing_packets.specs.Read.{Bytes, Opens, Gives}

abbrev pub state : Place → Message → State
state p m = record { place = p; message = m }

-- ---- one run of bytes after another

pub gives_then : {s t u : State} {n : ℕ} {hs ks : List Happening} (xs ys : List ℕ) → Gives s n xs hs t → Gives t (n + length xs) ys ks u
    → Gives s n (xs ++ ys) (hs ++ ks) u
gives_then {s} {t} {u} {n} {hs} {ks} xs ys g h = record {
  events = happens-append xs ys s n ∙ rw (g.events, g.state, h.events);
  state = after-append xs ys s ∙ rw (g.state, h.state);
}

pub gives_none : (s : State) (n : ℕ) → Gives s n [] [] s
unfolding happens after
gives_none s n = record { events = refl; state = refl }

module _ (s : State) (n b : ℕ) where
  pub gives-quiet : {p : Place} {m : Message} → step s b ≡ goes p m → Gives s n (b ∷ []) [] (state p m)
  unfolding happens after
  gives-quiet e = record { events = rw e; state = ap (λ (o : Step). o.next) e }

  pub gives-event : {o : Step} → step s b ≡ o → eqb o.said.number 0 ≡ false → Gives s n (b ∷ []) (record { offset = n + 1; said = o.said } ∷ []) o.next
  unfolding happens after
  gives-event e l = record { events = rw e (rw l); state = ap (λ (o : Step). o.next) e }

-- ---- the bytes

pub opens_at : (s : State) → s.place ≡ outside → Opens s
unfolding step in_place
opens_at s e = ap (λ (p : Place). in_place p s.message BOF) e

pub opens-outside : (m : Message) → Opens (state outside m)
opens-outside m = opens_at (state outside m) refl

pub opens-stray : (m : Message) → Opens (state stray m)
unfolding step in_place
opens-stray m = refl

-- right after another BOF
pub opens-again : (m : Message) → Opens (state (inside []) m)
unfolding step in_place cuts
opens-again m = refl

module _ (xs : List ℕ) (m : Message) where
  pub step_end : step (state (inside xs) m) EOF ≡ ends xs m
  unfolding step in_place
  step_end = refl

  step-ce : step (state (inside xs) m) CE ≡ goes (escaped xs) m
  unfolding step in_place
  step-ce = refl

  step-plain : (b : ℕ) → b < 0xf8 → length xs < content_limit → step (state (inside xs) m) b ≡ goes (inside (xs ++ b ∷ [])) m
  unfolding step in_place adds
  step-plain b h l =
      let e : b ≡ BOF → ⊥ = λ q. omega arith in
      let f : b ≡ EOF → ⊥ = λ q. omega arith in
      let g : b ≡ CE → ⊥ = λ q. omega arith in
      simp (ne_eqb _ _ e, ne_eqb _ _ f, ne_eqb _ _ g, lt-leb _ _ h, lt-ltb _ _ l)

  step-escaped : (b x : ℕ) → 0xd8 ≤ b → b ≤ 0xdf → bit_xor b 0x20 ≡ x → length xs < content_limit → step (state (escaped xs) m) b ≡ goes (inside (xs ++ x ∷ [])) m
  unfolding step in_place adds
  step-escaped b x h k q l =
      let e : b ≡ BOF → ⊥ = λ r. omega arith in
      let f : b ≡ EOF → ⊥ = λ r. omega arith in
      simp (ne_eqb _ _ e, ne_eqb _ _ f, le-ltb _ _ h, le-ltb _ _ k, lt-ltb _ _ l, q)

-- "the byte XOR 20": F8 to FF and D8 to DF, eight each
xor-down : (r : ℕ) → r < 8 → bit_xor (0xf8 + r) 0x20 ≡ 0xd8 + r
xor-down r h = xor_block 3 31 4 r 0 h (omega arith) ∙ ap (λ (k : ℕ). 0xd8 + k) (xor_zero_r r)

xor-up : (r : ℕ) → r < 8 → bit_xor (0xd8 + r) 0x20 ≡ 0xf8 + r
xor-up r h = xor_block 3 27 4 r 0 h (omega arith) ∙ ap (λ (k : ℕ). 0xf8 + k) (xor_zero_r r)

lt-or-le : (a b : ℕ) → (a < b) ⊎ (b ≤ a)
lt-or-le a b = by (ltb a b) refl
  where
    by : (t : Bool) → ltb a b ≡ t → (a < b) ⊎ (b ≤ a)
    by true e = inl (ltb-true a b e)
    by false e = inr (ltb-false a b e)

module _ (m : Message) where
  escape-back : (b : ℕ) → b < 256 → (xs : List ℕ) (n : ℕ) → length xs < content_limit
      → Gives (state (inside xs) m) n (escape b) [] (state (inside (xs ++ b ∷ [])) m)
  escape-back b h xs n l = ⊎_elim plain high (lt-or-le b 0xf8)
    where
      plain : b < 0xf8 → Gives (state (inside xs) m) n (escape b) [] (state (inside (xs ++ b ∷ [])) m)
      plain k = rw (escape-plain b k) (gives-quiet _ n b (step-plain xs m b k l))

      high : 0xf8 ≤ b → Gives (state (inside xs) m) n (escape b) [] (state (inside (xs ++ b ∷ [])) m)
      high k =
          let e : b ≡ 0xf8 + (b - 0xf8) = omega arith in
          let r : b - 0xf8 < 8 = omega arith in
          let d : bit_xor b 0x20 ≡ 0xd8 + (b - 0xf8) = ap (λ (x : ℕ). bit_xor x 0x20) e ∙ xor-down (b - 0xf8) r in
          let u : bit_xor (bit_xor b 0x20) 0x20 ≡ b = ap (λ (x : ℕ). bit_xor x 0x20) d ∙ xor-up (b - 0xf8) r ∙ sym e in
          rw (escape-high b k)
          (gives_then (CE ∷ []) (bit_xor b 0x20 ∷ []) (gives-quiet _ n CE (step-ce xs m))
          (gives-quiet _ _ (bit_xor b 0x20) (step-escaped xs m (bit_xor b 0x20) b (omega arith) (omega arith) u l)))

  pub escapes-back : (ys : List ℕ) → Bytes ys → (xs : List ℕ) (n : ℕ) → length xs + length ys ≤ content_limit
      → Gives (state (inside xs) m) n (escapes ys) [] (state (inside (xs ++ ys)) m)
  unfolding escapes
  escapes-back [] h xs n l = rw (append-nil xs) (gives_none _ n)
  escapes-back (y ∷ ys) h xs n l =
      let k : length (xs ++ y ∷ []) + length ys ≤ content_limit = simp length-append (omega arith) in
      rw (← (append_assoc xs (y ∷ []) ys))
      (gives_then (escape y) (escapes ys) (escape-back y h.0 xs n (omega arith)) (escapes-back ys h.1 (xs ++ y ∷ []) _ k))
