-- The words of `sheet-alive` and `alives-passed` (proofs/Theorems.antt): frames as lines of either case, and keep-alives before, between and after them.
-- Document 01: "keep-alives are passed over".
use Rattle.std.specs.Prelude.{ℕ, zero, suc, ◌+◌, ◌*◌, ◌≤◌, ◌<◌, Bool, true, false, List, [], ◌∷◌, ◌++◌, ◌≡◌, length, take, drop}
use Rattle.base_hex.specs.Digits.{digit_of}
use Rattle.framing_packets.specs.Read.{Bytes}
use Rattle.framing_packets.specs.Written.{body_limit, frame, request_body, response_body, packet, payload_limit, earlier}
use Rattle.desk_crosspoints.specs.Desk.{Desk}
use Rattle.sheet_rules.specs.Sheet.{sheet_message}

-- "pairs of hexadecimal digits of either case": the bytes, and a text of them
pub data Digits : List ℕ → List ℕ → Type 0 where
  nothing : Digits [] []
  pair : {b : ℕ} {bs text : List ℕ} (high low : ℕ) → digit_of high < 16 → digit_of low < 16 → digit_of high * 16 + digit_of low ≡ b
      → Digits bs text → Digits (b ∷ bs) (high ∷ low ∷ text)

-- "one frame .. a line", which "ends at 0A or the input's end": the frames, and a text of them
pub data Lines : List (List ℕ) → List ℕ → Type 0 where
  over : Lines [] []
  line : {f : List ℕ} {fs : List (List ℕ)} {digits text : List ℕ} → Digits f digits → Lines fs text → Lines (f ∷ fs) (digits ++ (10 ∷ text))
  last : {f digits : List ℕ} → Digits f digits → Lines (f ∷ []) digits

-- Frames, and the same with keep-alives put in: requests and responses, any number of them, anywhere.
pub data WithAlives : List (List ℕ) → List (List ℕ) → Type 0 where
  end : WithAlives [] []
  own : {fs gs : List (List ℕ)} (f : List ℕ) → WithAlives fs gs → WithAlives (f ∷ fs) (f ∷ gs)
  request : {fs gs : List (List ℕ)} → WithAlives fs gs → WithAlives fs (frame request_body ∷ gs)
  response : {fs gs : List (List ℕ)} → WithAlives fs gs → WithAlives fs (frame response_body ∷ gs)

-- frames that the frame writer writes, whatever their content
pub record Framed (f : List ℕ) : Type 0 where
  pub body : List ℕ
  pub is : f ≡ frame body
  pub bytes : Bytes body
  pub fits : length body ≤ body_limit

abbrev pub AllFramed : List (List ℕ) → Type 0
AllFramed [] = Unit {0}
AllFramed (f ∷ fs) = Framed f × AllFramed fs

-- The frames of a sheet: its message's packets (`packet_lines`).
unfoldable pub packet_frames : ℕ → Bool → List ℕ → List (List ℕ)
packet_frames zero first m = packet first true m ∷ []
packet_frames (suc n) first m = packet first false (take payload_limit m) ∷ packet_frames n false (drop payload_limit m)

abbrev pub sheet_frames : Desk → List (List ℕ)
sheet_frames d = packet_frames (earlier (length (sheet_message d))) true (sheet_message d)
