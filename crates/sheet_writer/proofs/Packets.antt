-- How long the frames and the lines of a message are, and the answers of those who write them.
use Rattle.std.specs.Prelude.{Option, Some, None}
use Prim.Native.Nat.{ℕ, zero, suc, ◌+◌, ◌*◌, ◌≤◌}
use mathlib.Core.Path.{◌≡◌, refl, sym, ap, ◌∙◌}
use mathlib.Core.List.{List, [], ◌∷◌, ◌++◌}
use mathlib.Core.Bool.{Bool, true, false}
use native.Mathlib.Omega.{arith}
use lib.ListN.{length, take, drop, length-append, take-append-drop}
use lib.Seq.{take_at}
use Rattle.framing_packets.specs.Written.{packet, payload_limit, earlier, in_packets}
use Rattle.framing_packets.specs.Written.{Outcome, outcome, message_into}
use Rattle.framing_packets.proofs.Laws.{limited-fits}
use Rattle.framing_packets.proofs.Sizes.{packet-length, packets-length, into-fits}
use Rattle.base_hex.specs.Digits.{hex_text}
use Rattle.sheet_rules.specs.Sheet.{line_of, packet_lines, message_lines}

pub frames-length : (m : List ℕ) → length m ≤ 6144 → length (in_packets m) ≤ 16384
frames-length m h =
    let a = packets-length (earlier (length m)) true m in
    let b : earlier (length m) ≤ 6 = omega arith in
    omega (arith, a, b, h)

-- ---- the frames of a message

module _ (m o : List ℕ) (short : length m ≤ 6144) (room : length o ≡ 16384) where
  message-fits : message_into m o ≡ outcome (Some (length (in_packets m))) (in_packets m ++ drop (length (in_packets m)) o)
  message-fits =
      let a = frames-length m short in
      limited-fits _ _ _ _ (omega (arith, short)) ∙ into-fits (in_packets m) o (omega (arith, a, room))

  pub frames-put : (r : Option ℕ) (o' : List ℕ) → message_into m o ≡ outcome r o' → (n : ℕ) → r ≡ Some n → (take n o' ≡ in_packets m) × (n ≤ 16384)
  frames-put r o' g n q =
      let e : message_into m o ≡ outcome (Some n) o' = g ∙ ap (λ (x : Option ℕ). outcome x o') q in
      let bs = in_packets m in
      let z : outcome (Some (length bs)) (bs ++ drop (length bs) o) ≡ outcome (Some n) o' = sym message-fits ∙ e in
      let c : length bs ≡ n = ap (λ (x : Outcome). x.count) z in
      let a = frames-length m short in (
        ap (λ (x : Outcome). take x.count x.output) (sym z) ∙ take_at bs (drop (length bs) o) (length bs) refl,
        omega (arith, a, c),
      )

  pub frames-out : (r : Option ℕ) (o' : List ℕ) → message_into m o ≡ outcome r o' → r ≡ None → ⊥
  frames-out r o' g q =
      let e : message_into m o ≡ outcome None o' = g ∙ ap (λ (x : Option ℕ). outcome x o') q in
      let z : ◌≡◌ {A = ℕ} 0 46 = ap (λ (x : Outcome). x.number) (sym message-fits ∙ e) in omega arith

-- ---- its lines: two digits a byte, and 0A

hex-double : (xs : List ℕ) → length (hex_text xs) ≡ 2 * length xs
unfolding hex_text
hex-double [] = refl
hex-double (x ∷ xs) = omega (arith, hex-double xs)

line-length : (first last : Bool) (p : List ℕ) → length (line_of (packet first last p)) ≤ 49 + 4 * length p
line-length first last p =
    omega (arith, length-append (hex_text (packet first last p)) (10 ∷ []), hex-double (packet first last p), packet-length first last p)

lines-length : (n : ℕ) (first : Bool) (m : List ℕ) → length (packet_lines n first m) ≤ 49 * suc n + 4 * length m
unfolding packet_lines
lines-length zero first m = line-length first true m
lines-length (suc n) first m =
    let t = take payload_limit m in
    let d = drop payload_limit m in
    let a = line-length first false t in
    let b = lines-length n false d in
    let c = length-append (line_of (packet first false t)) (packet_lines n false d) in
    let e = length-append t d in
    let g = ap length (take-append-drop payload_limit m) in
    omega (arith, a, b, c, e, g)

pub text-length : (m : List ℕ) → length m ≤ 6108 → length (message_lines m) ≤ 25000
text-length m h =
    let a = lines-length (earlier (length m)) true m in
    let b : earlier (length m) ≤ 6 = omega arith in
    omega (arith, a, b, h)
