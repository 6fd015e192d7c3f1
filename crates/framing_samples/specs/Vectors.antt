-- Calls at literal words, by computation: what 1 leaves, and which bytes of the store a call writes.
use Rattle.std.specs.Prelude.{ℕ, true, false, ◌≡◌, refl, List, [], ◌∷◌, ◌++◌, map, replicate, Some, None}
use Rattle.framing_checksum.specs.Checksum.{table, crc_step, crc_from, checksum}
use Rattle.framing_content.specs.Content.{packet_of, command_of, body_of, content_of}
use Rattle.framing_session.specs.Rules.{adds, pieces, ends, faulted, cuts, in_place, step}
use Rattle.framing_session.specs.Session.{kept, run, feeds}
use Rattle.framing_words.specs.Words.{frame_at, pending_at, is_frame, is_pending, is_session}
use Rattle.framing_answers.specs.Answers.{accepts, tells}
use Rattle.framing_c.specs.Calls.{starts, called_of, calls, puts}

abbrev four : ℕ → ℕ → ℕ → ℕ → List ℕ
four a b c d = a ∷ b ∷ c ∷ d ∷ []

-- 1 SETUP for a session that has not four words, which stay.
pub v-starts : map starts (four 8 8 8 8 ∷ (8 ∷ 8 ∷ 8 ∷ []) ∷ (8 ∷ 8 ∷ 8 ∷ 8 ∷ 8 ∷ []) ∷ [])
    ≡ record { number = 0; session = four 0 0 0 0 }
    ∷ record { number = 1; session = 8 ∷ 8 ∷ 8 ∷ [] }
    ∷ record { number = 1; session = 8 ∷ 8 ∷ 8 ∷ 8 ∷ 8 ∷ [] }
    ∷ []
unfolding starts
v-starts = refl

-- 1 SETUP for each length and word that is not right; "1 leaves everything as it was".
abbrev outside : List ℕ
outside = four 0 0 0 0

pub v-accepts : map (λ (ws : List ℕ). accepts ws 17408 3)
    (outside ∷ four 2 1024 1 16384 ∷ four 2 1025 1 16384 ∷ four 2 1024 1 16385 ∷ four 6 0 0 0 ∷ four 0 1 0 0 ∷ four 0 0 2 0 ∷ four 0 0 0 1 ∷ [])
    ≡ true ∷ true ∷ false ∷ false ∷ false ∷ false ∷ false ∷ false ∷ []
unfolding is_frame is_pending is_session frame_at pending_at accepts
v-accepts = refl

pub v-lengths : (map (λ (n : ℕ). accepts outside n 3) (0 ∷ 17407 ∷ 17408 ∷ 17409 ∷ []) ≡ false ∷ false ∷ true ∷ false ∷ [])
    × (map (λ (k : ℕ). accepts outside 17408 k) (0 ∷ 2 ∷ 3 ∷ 4 ∷ []) ≡ false ∷ false ∷ true ∷ false ∷ [])
unfolding is_frame is_pending is_session frame_at pending_at accepts
v-lengths = (refl, refl)

pub v-setup : calls (four 2 1 2 1) (5 ∷ 6 ∷ []) (0xfe ∷ []) (7 ∷ 8 ∷ 9 ∷ [])
    ≡ record { number = 1; session = four 2 1 2 1; store = 5 ∷ 6 ∷ []; answer = 7 ∷ 8 ∷ 9 ∷ [] }
unfolding is_frame is_pending is_session accepts calls
v-setup = refl

-- "Bytes that no rule writes stay": in a store of sevens, the message from 0 and the content from 16,384, and no other.
abbrev sevens : ℕ → List ℕ
sevens n = replicate n 7

-- P9
pub v-keep-alive : calls outside (sevens 17408) (0xfe ∷ 0x00 ∷ 0x0e ∷ 0x01 ∷ 0x01 ∷ 0x94 ∷ 0xe4 ∷ 0xff ∷ 0xfe ∷ []) (9 ∷ 9 ∷ 9 ∷ [])
    ≡ record {
      number = 4;
      session = four 0 0 0 0;
      store = sevens 16384 ++ 0x00 ∷ 0x0e ∷ 0x01 ∷ 0x01 ∷ 0x94 ∷ 0xe4 ∷ sevens 1018;
      answer = 0 ∷ 8 ∷ 0 ∷ [];
    }
unfolding is_frame is_pending is_session frame_at pending_at accepts called_of calls feeds run kept
    step in_place adds ends cuts pieces content_of body_of command_of packet_of checksum crc_from crc_step table
v-keep-alive = refl

-- A message of two bytes, where one of three was open.
pub v-message : calls (four 0 0 1 3) (sevens 17408)
    (0xfe ∷ 0x00 ∷ 0x0e ∷ 0x00 ∷ 0x01 ∷ 0xc0 ∷ 0x01 ∷ 0x02 ∷ 0x14 ∷ 0x02 ∷ 0x0a ∷ 0x0b ∷ 0x7e ∷ 0x1b ∷ 0xff ∷ []) (9 ∷ 9 ∷ 9 ∷ [])
    ≡ record {
      number = 3;
      session = four 0 0 0 0;
      store = 0x0a ∷ 0x0b ∷ (sevens 16382
          ++ 0x00 ∷ 0x0e ∷ 0x00 ∷ 0x01 ∷ 0xc0 ∷ 0x01 ∷ 0x02 ∷ 0x14 ∷ 0x02 ∷ 0x0a ∷ 0x0b ∷ 0x7e ∷ 0x1b ∷ sevens 1011);
      answer = 1 ∷ 15 ∷ 2 ∷ [];
    }
unfolding is_frame is_pending is_session frame_at pending_at accepts called_of calls feeds run kept
    step in_place adds ends cuts pieces content_of body_of command_of packet_of checksum crc_from crc_step table
v-message = refl

-- "later bytes of that frame are neither counted nor stored"
pub v-fault : calls (four 0 0 1 3) (sevens 17408) (0xfe ∷ 0x01 ∷ 0xf8 ∷ 0x02 ∷ []) (9 ∷ 9 ∷ 9 ∷ [])
    ≡ record { number = 0; session = four 4 1 1 3; store = sevens 16384 ++ 0x01 ∷ sevens 1023; answer = 0 ∷ 4 ∷ 0 ∷ [] }
unfolding is_frame is_pending is_session frame_at pending_at accepts called_of calls feeds run kept step in_place adds ends cuts faulted
v-fault = refl

-- The writer: 0 and the count of bytes, or 46, which leaves the count.
pub v-tells : (tells (Some 8) 5 ≡ record { number = 0; count = 8 }) × (tells None 5 ≡ record { number = 46; count = 5 })
v-tells = (refl, refl)

pub v-puts : map (λ (n : ℕ). puts (record { number = n; count = 8; output = 1 ∷ [] }) 5) (0 ∷ 46 ∷ [])
    ≡ record { number = 0; output = 1 ∷ []; count = 8 } ∷ record { number = 46; output = 1 ∷ []; count = 5 } ∷ []
unfolding puts
v-puts = refl
