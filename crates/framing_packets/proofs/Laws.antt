-- One law for each answer of the definitions of Written, at plain variables.
use Rattle.std.specs.Prelude.{Some, None}
use Prim.Native.Nat.{ℕ, suc, ◌+◌, ◌-◌, ◌/◌, ◌%◌, ◌≤◌, ◌<◌}
use mathlib.Core.Bool.{Bool, true, false}
use mathlib.Core.List.{List, [], ◌∷◌, ◌++◌, append_assoc}
use mathlib.Core.Path.{◌≡◌, refl, sym, ap, subst, ◌∙◌}
use native.Mathlib.Numerals.{add-one}
use native.Mathlib.Omega.{arith}
use borrow.Author.Tests.{le-leb, lt-leb, leb-true}
use lib.Dec.{leb}
use lib.Bits.{bit_xor}
use lib.ListN.{length, get_or, take, drop, length-drop, drop_of_length-le}
use lib.Seq.{take-append_seam, drop-cons}
use Rattle.framing_checksum.specs.Checksum.{crc_step, crc_from, checksum}
use Rattle.base_choices.specs.Choices.{pick}
use Rattle.base_output.specs.Output.{Wrote, wrote}
use Rattle.base_output.proofs.Laws.{wrote-all, wrote_count}
use Rattle.framing_content.specs.Numbers.{BOF, EOF, CE}
use Rattle.framing_packets.specs.Written.{escape, escapes, frame, flags, header, packet, packets, payload_limit, earlier, Outcome, outcome, into, limited}

-- ---- escapes

pub escape-plain : (b : ℕ) → b < 0xf8 → escape b ≡ b ∷ []
unfolding escape
escape-plain b h = simp (lt-leb _ _ h)

pub escape-high : (b : ℕ) → 0xf8 ≤ b → escape b ≡ CE ∷ bit_xor b 0x20 ∷ []
unfolding escape
escape-high b h = simp (le-leb _ _ h)

pub escapes-append : (xs ys : List ℕ) → escapes (xs ++ ys) ≡ escapes xs ++ escapes ys
unfolding escapes
escapes-append [] ys = refl
escapes-append (x ∷ xs) ys = rw (escapes-append xs ys) (sym (append_assoc (escape x) (escapes xs) (escapes ys)))

module _ (s : List ℕ) (i : ℕ) where
  pub escapes-more : i < length s → escapes (drop i s) ≡ escape (get_or s i 0) ++ escapes (drop (i + 1) s)
  unfolding escapes
  escapes-more h = rw (drop-cons s i 0 h, add-one i)

  pub escapes-end : length s ≤ i → escapes (drop i s) ≡ []
  unfolding escapes
  escapes-end h = rw (drop_of_length-le s h)

-- ---- frames

crc_from-append : (c : ℕ) (xs ys : List ℕ) → crc_from c (xs ++ ys) ≡ crc_from (crc_from c xs) ys
unfolding crc_from
crc_from-append c [] ys = refl
crc_from-append c (x ∷ xs) ys = crc_from-append (crc_step c x) xs ys

-- of content in two parts, c what the checksum's steps leave
pub frame-parts : (xs ys : List ℕ) {c lo hi : ℕ} → c ≡ crc_from (crc_from 0xffff xs) ys → lo ≡ (0xffff - c) % 256 → hi ≡ (0xffff - c) / 256
    → frame (xs ++ ys) ≡ BOF ∷ [] ++ (escapes xs ++ (escapes ys ++ (escape lo ++ (escape hi ++ EOF ∷ []))))
unfolding frame checksum escapes
frame-parts xs ys e l h = rw (l, h, e, ← (crc_from-append 0xffff xs ys)) (simp (escapes-append, append_assoc))

-- ---- messages

pub packet-frame : (first last : Bool) (p : List ℕ) {f : ℕ} → f ≡ flags first last (length p) → packet first last p ≡ frame (header f ++ p)
unfolding packet
packet-frame first last p e = rw e

pub packets-last : (first : Bool) (m : List ℕ) → length m ≤ payload_limit → packets (earlier (length m)) first m ≡ packet first true m
unfolding packets
packets-last first m h = let e : earlier (length m) ≡ 0 = omega arith in rw e

pub packets-more : (first : Bool) (m : List ℕ) {p q : List ℕ} → payload_limit < length m → p ≡ take payload_limit m → q ≡ drop payload_limit m
    → packets (earlier (length m)) first m ≡ packet first false p ++ packets (earlier (length q)) false q
unfolding packets
packets-more first m h i j =
    let d : length (drop payload_limit m) ≡ length m - payload_limit = length-drop payload_limit m in
    let e : earlier (length m) ≡ suc (earlier (length (drop payload_limit m))) = omega arith in
    rw (i, j, e)

-- ---- answers

-- v is what counting leaves, and w what writing leaves
module _ (bs o : List ℕ) where
  pub into-short : {v : Wrote} → wrote [] 0 bs ≡ v → length (v.output ++ o) < v.next → into bs o ≡ outcome None (v.output ++ o)
  unfolding into
  into-short {v} e = subst (λ (u : Wrote). length (u.output ++ o) < u.next → into bs o ≡ outcome None (u.output ++ o)) (sym (wrote_count bs) ∙ e) short
    where
      short : length o < length bs → into bs o ≡ outcome None o
      short h = simp (lt-leb _ _ h)

  pub into-done : {v w : Wrote} → wrote [] 0 bs ≡ v → v.next ≤ length (v.output ++ o) → wrote (v.output ++ o) 0 bs ≡ w → into bs o
      ≡ outcome (Some v.next) w.output
  unfolding into
  into-done {v} {w} e = subst (λ (u : Wrote). u.next ≤ length (u.output ++ o) → wrote (u.output ++ o) 0 bs ≡ w → into bs o
      ≡ outcome (Some u.next) w.output) (sym (wrote_count bs) ∙ e) done
    where
      done : length bs ≤ length o → wrote o 0 bs ≡ w → into bs o ≡ outcome (Some (length bs)) w.output
      done h q = simp (le-leb _ _ h, wrote-all o bs h q)

-- what was answered as done stands in the output
pub into_back : (bs o p : List ℕ) (n : ℕ) → into bs o ≡ outcome (Some n) p → take n p ≡ bs
unfolding into
into_back bs o p n = by (leb (length bs) (length o))
  where
    by : (t : Bool) → pick t (outcome (Some (length bs)) (bs ++ drop (length bs) o)) (outcome None o) ≡ outcome (Some n) p → take n p ≡ bs
    by true e =
        ap (λ (u : Outcome). take u.count u.output) (sym e) ∙ take-append_seam bs (drop (length bs) o)
    by false e = let z : ◌≡◌ {A = ℕ} 46 0 = ap (λ (u : Outcome). u.number) e in absurd (omega arith)

module _ (n limit : ℕ) (bs o : List ℕ) where
  pub limited-fits : n ≤ limit → limited n limit bs o ≡ into bs o
  unfolding limited
  limited-fits h = simp (le-leb _ _ h)

  pub limited-over : limit < n → limited n limit bs o ≡ outcome None o
  unfolding limited
  limited-over h = simp (lt-leb _ _ h)

  pub limited-done : {p : List ℕ} {k : ℕ} → limited n limit bs o ≡ outcome (Some k) p → (n ≤ limit) × (take k p ≡ bs)
  unfolding limited
  limited-done {p} {k} = by (leb n limit) refl
    where
      by : (t : Bool) → leb n limit ≡ t → pick t (into bs o) (outcome None o) ≡ outcome (Some k) p → (n ≤ limit) × (take k p ≡ bs)
      by true l e = (leb-true _ _ l, into_back bs o p k e)
      by false l e = let z : ◌≡◌ {A = ℕ} 46 0 = ap (λ (u : Outcome). u.number) e in absurd (omega arith)
