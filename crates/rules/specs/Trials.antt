-- 01, "Trial rules": P1 to P13, one list, with what the call on bytes and the program are given of it and must answer.
-- That they answer it is proved in proofs/Trials.antt.
-- Assumes nothing.
use Rattle.std.specs.Prelude.{ℕ, zero, suc, ◌+◌, ◌-◌, ◌*◌, Bool, true, ◌&&◌, cond, List, [], ◌∷◌, ◌++◌, length, replicate, leb, eqb}
use Rattle.octets.specs.Words.{bytes_of}
use Rattle.rules.specs.Words.{scratch_words}
use Rattle.rules.specs.Refusals.{ok, refuse}
use Rattle.rules.specs.Calls.{Outcome, lower}
use Rattle.rules.specs.Program.{printed}

-- H 4, G 1, value-eq 0; head 0 is primitive, 2 a constructor, 1 and 3 are functions
abbrev pub signature_of : ℕ → List ℕ
signature_of flag =
    0x0100_0004 ∷ 0x0100_0001 ∷ 0x0100_0000 ∷ flag ∷ 0x0100_0002 ∷ 0x0100_0000 ∷ 0x0100_0001 ∷ 0x0100_0000 ∷ []

abbrev pub flag_on : List ℕ
flag_on = signature_of 0x0100_0001

abbrev pub flag_off : List ℕ
flag_off = signature_of 0x0100_0000

-- what 01 says of a trial: words, replacements, passes and counters after the call; or number and place
pub data Expected : Type 0 where
  took : List ℕ → ℕ → ℕ → List ℕ → Expected
  turned_back : ℕ → ℕ → Expected

-- in words; `room` is the output's length
pub record Trial : Type 0 where
  pub signature : List ℕ
  pub rule : List ℕ
  pub counters : List ℕ
  pub room : ℕ
  pub expected : Expected

-- the atoms of P13 behind its first one: each takes the answer of the one before
abbrev nested : ℕ → List ℕ
nested zero = []
nested (suc n) = 0x1001_0002 ∷ (0x8001_0000 + suc n) ∷ (0x8001_0000 + n) ∷ nested n

abbrev pub zeros : List ℕ
zeros = 0 ∷ 0 ∷ 0 ∷ 0 ∷ []

abbrev pub trials : List Trial
trials =
    -- P1
    record {
      signature = flag_on;
      rule = 0x0400_2001 ∷ 0x0800_0002 ∷ 0x4000_0002 ∷ 0x1001_0001 ∷ 0x4000_0001 ∷ 0x0800_0002 ∷ 0x4000_0003 ∷ 0x1001_0001 ∷ 0x4000_0001
          ∷ 0x0200_0002 ∷ 0x1003_0001 ∷ 0x4000_0001 ∷ 0x4000_0003 ∷ [];
      counters = zeros;
      room = 17;
      expected = took (0x0400_1004 ∷ 0x1001_0002 ∷ 0x4000_0001 ∷ 0x8001_0001 ∷ 0x0200_0001 ∷ 0x8001_0000 ∷ 0x8001_0001 ∷ 0x0200_0001
          ∷ 0x4000_0003 ∷ 0x8001_0001 ∷ 0x0200_0001 ∷ 0x4000_0002 ∷ 0x8001_0000 ∷ 0x0200_0002 ∷ 0x1003_0001 ∷ 0x4000_0001 ∷ 0x4000_0003
          ∷ []) 3 2 (0 ∷ 2 ∷ 0 ∷ 1 ∷ []);
    } ∷
    -- P1 with 16 words of output
    record {
      signature = flag_on;
      rule = 0x0400_2001 ∷ 0x0800_0002 ∷ 0x4000_0002 ∷ 0x1001_0001 ∷ 0x4000_0001 ∷ 0x0800_0002 ∷ 0x4000_0003 ∷ 0x1001_0001 ∷ 0x4000_0001
          ∷ 0x0200_0002 ∷ 0x1003_0001 ∷ 0x4000_0001 ∷ 0x4000_0003 ∷ [];
      counters = zeros;
      room = 16;
      expected = turned_back 10 17;
    } ∷
    -- P2
    record { signature = flag_on; rule = 0x0400_0000 ∷ []; counters = zeros; room = 100; expected = took (0x0400_0000 ∷ []) 0 1 zeros } ∷
    -- P3
    record {
      signature = flag_on;
      rule = 0x0400_1000 ∷ 0x0800_0002 ∷ 0x2000_0001 ∷ 0x2000_0002 ∷ [];
      counters = zeros;
      room = 100;
      expected = took (0x0400_1000 ∷ 0x1000_0003 ∷ 0x2000_0001 ∷ 0x2000_0002 ∷ 0x2000_0000 ∷ []) 0 1 zeros;
    } ∷
    -- P4
    record {
      signature = flag_on;
      rule = 0x0400_1000 ∷ 0x0800_0002 ∷ 0x2000_0001 ∷ 0x2000_0001 ∷ [];
      counters = zeros;
      room = 100;
      expected = took (0x0400_0000 ∷ []) 0 1 zeros;
    } ∷
    -- P5
    record {
      signature = flag_on;
      rule = 0x0400_1000 ∷ 0x0800_0002 ∷ 0x4000_0001 ∷ 0x4000_0000 ∷ [];
      counters = zeros;
      room = 100;
      expected = took (0x0400_0001 ∷ 0x0200_0001 ∷ 0x4000_0001 ∷ 0x4000_0000 ∷ []) 1 1 zeros;
    } ∷
    -- P6
    record {
      signature = flag_on;
      rule = 0x0400_1000 ∷ 0x0800_0002 ∷ 0x2000_0001 ∷ 0x4000_0001 ∷ [];
      counters = zeros;
      room = 100;
      expected = took (0x0400_0001 ∷ 0x0200_0001 ∷ 0x4000_0001 ∷ 0x2000_0001 ∷ []) 1 1 zeros;
    } ∷
    -- P7
    record {
      signature = flag_on;
      rule = 0x0400_1000 ∷ 0x0800_0002 ∷ 0x4000_0001 ∷ 0x4000_0002 ∷ [];
      counters = zeros;
      room = 100;
      expected = took (0x0400_0001 ∷ 0x0200_0001 ∷ 0x4000_0001 ∷ 0x4000_0002 ∷ []) 1 1 zeros;
    } ∷
    -- P8
    record {
      signature = flag_on;
      rule = 0x0400_1001 ∷ 0x4000_0001 ∷ 0x0200_0008 ∷ 0x4000_0001 ∷ [];
      counters = zeros;
      room = 100;
      expected = turned_back 7 3;
    } ∷
    -- P9
    record {
      signature = flag_on;
      rule = 0x0400_1001 ∷ 0x0800_0002 ∷ 0x4000_0001 ∷ 0x4000_0001 ∷ 0x0200_0001 ∷ 0x4000_0001 ∷ 0x4000_0009 ∷ [];
      counters = zeros;
      room = 100;
      expected = turned_back 8 4;
    } ∷
    -- P10
    record {
      signature = flag_on;
      rule = 0x0400_0001 ∷ 0x0200_0005 ∷ 0x4000_0001 ∷ 0x1002_0001 ∷ 0x4000_0002 ∷ [];
      counters = zeros;
      room = 100;
      expected = turned_back 7 4;
    } ∷
    -- P10 with the flag off
    record {
      signature = flag_off;
      rule = 0x0400_0001 ∷ 0x0200_0005 ∷ 0x4000_0001 ∷ 0x1002_0001 ∷ 0x4000_0002 ∷ [];
      counters = zeros;
      room = 100;
      expected = turned_back 7 2;
    } ∷
    -- P11
    record {
      signature = flag_on;
      rule = 0x0400_2000 ∷ 0x0800_0002 ∷ 0x2000_0001 ∷ 0x1001_0001 ∷ 0x4000_0001 ∷ 0x0800_0002 ∷ 0x2000_0002 ∷ 0x1001_0001 ∷ 0x4000_0001 ∷ [];
      counters = zeros;
      room = 100;
      expected = took (0x0400_2002 ∷ 0x1000_0003 ∷ 0x2000_0001 ∷ 0x2000_0002 ∷ 0x2000_0000 ∷ 0x1001_0002 ∷ 0x4000_0001 ∷ 0x2000_0001
          ∷ 0x0200_0001 ∷ 0x8001_0001 ∷ 0x2000_0002 ∷ 0x0200_0001 ∷ 0x8001_0000 ∷ 0x2000_0001 ∷ []) 2 2 (0 ∷ 2 ∷ 0 ∷ 0 ∷ []);
    } ∷
    -- P12
    record {
      signature = flag_on;
      rule = 0x0400_1000 ∷ 0x1001_0000 ∷ [];
      counters = 0 ∷ 65535 ∷ 0 ∷ 0 ∷ [];
      room = 100;
      expected = took (0x0400_1000 ∷ 0x1001_0001 ∷ 0x8001_ffff ∷ []) 0 1 (0 ∷ 65536 ∷ 0 ∷ 0 ∷ []);
    } ∷
    -- P12 with the counter used up
    record {
      signature = flag_on;
      rule = 0x0400_1000 ∷ 0x1001_0000 ∷ [];
      counters = 0 ∷ 65536 ∷ 0 ∷ 0 ∷ [];
      room = 100;
      expected = turned_back 9 1;
    } ∷
    -- P13
    record {
      signature = flag_on;
      rule = 0x0400_1000 ∷ replicate 31 0x1001_0001 ++ 0x4000_0001 ∷ [];
      counters = zeros;
      room = 100;
      expected = took (0x0401_f000 ∷ 0x1001_0002 ∷ 0x4000_0001 ∷ 0x8001_001e ∷ nested 30) 0 1 (0 ∷ 31 ∷ 0 ∷ 0 ∷ []);
    } ∷
    -- P13 with one call more
    record {
      signature = flag_on;
      rule = 0x0400_1000 ∷ replicate 32 0x1001_0001 ++ 0x4000_0001 ∷ [];
      counters = zeros;
      room = 100;
      expected = turned_back 6 33;
    } ∷
    []

-- ---- the call on bytes

-- output before the call: any bytes would do
abbrev dirty : ℕ → List ℕ
dirty n = replicate (4 * n) 170

abbrev pub given : Trial → Outcome
given t = lower (bytes_of t.signature) (bytes_of t.rule) (bytes_of t.counters) (dirty t.room) (4 * scratch_words)

abbrev pub wanted : Trial → Expected → Outcome
wanted t (took ws r p cs) =
    record {
      number = 0;
      place = 0;
      written = length ws;
      replacements = r;
      passes = p;
      output = bytes_of ws ++ dirty (t.room - length ws);
      counters = bytes_of cs;
    }
wanted t (turned_back n p) =
    record {
      number = n;
      place = p;
      written = 0;
      replacements = 0;
      passes = 0;
      output = dirty t.room;
      counters = bytes_of t.counters;
    }

-- ---- the program, for the trials whose counters are at zero and whose output is not short

abbrev pub prints : Expected → List ℕ
prints (took ws r p cs) = printed (ok (record { words = ws; replacements = r; passes = p; counters = cs }))
prints (turned_back n p) = printed (refuse n p)

abbrev same_counts : List ℕ → Bool
same_counts [] = true
same_counts (c ∷ cs) = eqb c 0 && same_counts cs

abbrev pub for_program : List Trial → List Trial
for_program [] = []
for_program (t ∷ ts) = cond (same_counts t.counters && leb 17 t.room) (t ∷ for_program ts) (for_program ts)
