-- 01, "Settling", counters and the sizes of results: what is promised of every settled body and of every accepted call, as statements.
-- They are proved in proofs/, each under its name written small, and can be read with the definitions of `rules` alone.
-- Assumes nothing: these are definitions and statements.
use Rattle.std.specs.Prelude.{ℕ, ◌+◌, ◌*◌, ◌≤◌, ◌<◌, ◌≡◌, true, false, cond, List, [], ◌∷◌, length, get_or}
use Rattle.std.proofs.Math.Option.{none}
use Rattle.rules.specs.Words.{is_header_word}
use Rattle.rules.specs.Refusals.{ok}
use Rattle.rules.specs.Signature.{Sig, heads, read_signature, elem}
use Rattle.rules.specs.Flat.{Tab, Atom}
use Rattle.rules.specs.ToQuery.{body_vars}
use Rattle.rules.specs.Canonicalize.{Replacement, first_replacement, replace_all, canonicalize}
use Rattle.rules.specs.RemoveDupVars.{alike, remove_dup_vars, settle}
use Rattle.rules.specs.Calls.{Result, lower_words, settle_words}
use Rattle.meaning.specs.Meaning.{All}

-- ---- settling

-- any two atoms differ in head or in inputs
abbrev pub Apart : List Tab → Type 0
Apart [] = Unit {0}
Apart (a ∷ xs) = All (λ (b : Tab). alike a b ≡ false) xs × Apart xs

-- in the settled body, any two atoms differ in head or in inputs
abbrev pub SettledApart : Type 0
SettledApart = (s : Sig) (xs : List Atom) → Apart (settle s xs).tabs

-- each word once: the last time that it stands there
abbrev pub distinct : List ℕ → List ℕ
distinct [] = []
distinct (w ∷ ws) = cond (elem w ws) (distinct ws) (w ∷ distinct ws)

-- replacements never exceed the distinct variables of the flat body
abbrev pub ReplacementsBounded : Type 0
ReplacementsBounded = (s : Sig) (xs : List Atom) → length (settle s xs).repls ≤ length (distinct (body_vars s xs))

-- passes never exceed its atoms plus one
abbrev pub PassesBounded : Type 0
PassesBounded = (s : Sig) (xs : List Atom) → (settle s xs).passes ≤ length xs + 1

-- ---- what is counted down suffices, so that the bounds above are not met by stopping early

-- no equality is left that asks for a replacement
abbrev pub ReplaceAllEnds : Type 0
ReplaceAllEnds = (s : Sig) (xs : List Atom) (rs : List Replacement) → first_replacement s (replace_all s xs rs).atoms ≡ none

-- as many passes as there are atoms, and one, are enough: more than that many allowed give the same
abbrev pub SettleEnough : Type 0
SettleEnough =
    (s : Sig) (n : ℕ) (xs : List Atom) → length xs < n
    → let c = canonicalize s xs [] in remove_dup_vars s n c.tabs c.repls 0 ≡ settle s xs

-- ---- counters

-- an accepted call leaves as many counters, and those past the signature's heads as they were
abbrev pub CountersPastHeads : Type 0
CountersPastHeads =
    (signature rule counters : List ℕ) (room scratch : ℕ) (o : Result) → lower_words signature rule counters room scratch ≡ ok o
    → (s : Sig) × (read_signature signature ≡ ok s)
    × (length o.counters ≡ length counters) × ((h : ℕ) → heads s ≤ h → get_or o.counters h 0 ≡ get_or counters h 0)

-- ---- results

-- a lowered rule has at most four words for each word of the written one. So no output of 2,048 words or more is ever too short
abbrev pub LoweredSize : Type 0
LoweredSize =
    (signature rule counters : List ℕ) (room scratch : ℕ) (o : Result) → lower_words signature rule counters room scratch ≡ ok o
    → length o.words ≤ 4 * length rule

-- its first word is a header: neither of its numbers has run over
abbrev pub LoweredHeader : Type 0
LoweredHeader =
    (signature rule counters : List ℕ) (room scratch : ℕ) (o : Result) → lower_words signature rule counters room scratch ≡ ok o
    → is_header_word (get_or o.words 0 0) ≡ true

-- a settled rule has at most two words for each word of the flat one
abbrev pub SettledSize : Type 0
SettledSize =
    (signature rule : List ℕ) (room scratch : ℕ) (o : Result) → settle_words signature rule room scratch ≡ ok o → length o.words ≤ 2 * length rule

abbrev pub SettledHeader : Type 0
SettledHeader =
    (signature rule : List ℕ) (room scratch : ℕ) (o : Result) → settle_words signature rule room scratch ≡ ok o → is_header_word (get_or o.words 0 0) ≡ true
