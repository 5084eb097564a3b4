-- Writing a settled rule: runs of words one behind the other, `Fronted`; its words as three runs behind a header; and what is written of a rule in parts,
-- with room for it and without. Assumes nothing.
use Prim.Native.Nat.{ℕ, ◌+◌, ◌*◌, ◌^◌, ◌≤◌, ◌<◌}
use native.Mathlib.Omega.{arith}
use mathlib.Core.Path.{◌≡◌, refl, sym, ap, ap₂, ◌∙◌}
use mathlib.Core.List.{List, [], ◌∷◌, ◌++◌, append_assoc}
use lib.ListN.{length, set, length-append}
use Rattle.octets.specs.Words.{words}
use Rattle.octets.specs.Regions.{splice, part, At}
use Rattle.octets.proofs.Splice.{splice_one, splice_then}
use Rattle.rules.specs.Words.{limit12, header_word}
use Rattle.rules.specs.Signature.{Sig}
use Rattle.rules.specs.Flat.{Atom, CoreAction, tab_words, action_words, words_of, encode}
use Rattle.rules.specs.Canonicalize.{bindings}
use Rattle.rules.specs.RemoveDupVars as rules
use Rattle.settling.specs.declared.Settled.{Settled}
use Rattle.settling.specs.Settle.{SettledAt}
use Rattle.meaning.proofs.Lists.{words_append}
use Rattle.meaning.proofs.WordLaws.{length_bindings, bindings_words}
use Rattle.free_vars.specs.Head.{WroteIfRoom}
use Rattle.emitting.specs.Emit.{bound_size, Fits, emitted, Parts, Stand}

-- ---- runs one behind the other, at the front of the output: l has become m

pub record Fronted (l xs m : List ℕ) : Type 0 where
  pub is : m ≡ splice l 0 xs
  pub size : length m ≡ length l

pub fronted : {l m : List ℕ} (h : ℕ) → m ≡ set l 0 h → length m ≡ length l → 0 < length l → Fronted l (h ∷ []) m
fronted {l} h e size some = record { is = e ∙ splice_one l 0 h some; size = size }

pub fronted_then : {l xs m : List ℕ} → Fronted l xs m → {m' : List ℕ} (p : ℕ) (ys : List ℕ) → m' ≡ splice m p ys → p ≡ length xs → length m' ≡ length m
    → Fronted l (xs ++ ys) m'
fronted_then {l} {xs} f p ys e at size = record { is = splice_then l 0 xs p ys f.is e (omega arith) (omega arith); size = size ∙ f.size }

-- ---- a rule in parts

-- a part as long as the words that stand there is these words
pub part_at : (ws l : List ℕ) (p n : ℕ) → At ws l p → n ≡ length ws → part l p n ≡ ws
part_at ws l p n h e = ap (part l p) e ∙ h.words

-- how many words a settled rule has
count_words : (h : ℕ) (us vs ws : List ℕ) → length (h ∷ us ++ (vs ++ ws)) ≡ 1 + length us + length vs + length ws
count_words h us vs ws = omega (arith, length-append us (vs ++ ws), length-append vs ws)

module _ {b : rules.Settled} {xs : List CoreAction} {scratch : List ℕ} {body : Settled} {many : ℕ} {head_words : List ℕ}
    (p : Parts b xs scratch body many head_words) where
  bound : bound_size * body.replacements ≡ length (words_of action_words (bindings b.repls))
  bound = omega (arith, p.replacements, bindings_words b.repls)

  header : header_word body.atoms (body.replacements + many) ≡ header_word (length b.tabs) (length (bindings b.repls ++ xs))
  header =
      let n : body.replacements + many ≡ length (bindings b.repls ++ xs) =
      omega (arith, p.replacements, p.actions, length-append (bindings b.repls) xs, length_bindings b.repls) in
      ap₂ header_word p.atoms n

  -- its words
  encoded : {h : ℕ} → h ≡ header_word body.atoms (body.replacements + many)
      → emitted h scratch body head_words ≡ encode b.tabs (bindings b.repls ++ xs)
  encoded {h} e =
      ap₂ ◌∷◌ (e ∙ header)
      (ap₂ ◌++◌ (ap₂ ◌++◌ (part_at _ _ _ _ p.tabs p.words) (part_at _ _ _ _ p.binds bound)) p.head
      ∙ append_assoc (words_of tab_words b.tabs) (words_of action_words (bindings b.repls)) (words_of action_words xs)
      ∙ ap (λ (l : List ℕ). words_of tab_words b.tabs ++ l) (sym (words_append action_words (bindings b.repls) xs)))

  -- how many there are
  size : length head_words ≡ length (words_of action_words xs)
  size = ap length p.head

  needed : 1 + body.words + bound_size * body.replacements + length head_words ≡ length (encode b.tabs (bindings b.repls ++ xs))
  needed =
      let e = ap (λ (l : List ℕ). length (words_of tab_words b.tabs ++ l)) (words_append action_words (bindings b.repls) xs) in
      omega (arith, p.words, size, bound, e, count_words 0 (words_of tab_words b.tabs) (words_of action_words (bindings b.repls)) (words_of action_words xs))

  -- they lie inside what they are copied from
  asks : (room : ℕ) → 1 + body.words + bound_size * body.replacements + length head_words ≤ room → Fits body (length head_words) room (length scratch)
  asks room h =
      let x = p.tabs.within in
      let y = p.binds.within in
      record {
        atoms = omega (arith, x, p.words);
        binds = omega (arith, y, bound);
        room = h;
      }

  -- an output that has no room is left as it is
  pub no_room : (l : List ℕ) → length (words l) < 1 + body.words + bound_size * body.replacements + length head_words
      → WroteIfRoom (encode b.tabs (bindings b.repls ++ xs)) (1 + body.words + bound_size * body.replacements + length head_words) l l
  no_room l h = record {
    needed = needed;
    fits = λ k. absurd (nothing k);
    short = λ _. refl;
  }
    where
      nothing : length (encode b.tabs (bindings b.repls ++ xs)) ≤ length (words l) → ⊥
      nothing k = omega (arith, needed)

  -- and any other has the rule
  pub in_room : (l m : List ℕ) {h : ℕ} → h ≡ header_word body.atoms (body.replacements + many)
      → 1 + body.words + bound_size * body.replacements + length head_words ≤ length (words l)
      → words m ≡ splice (words l) 0 (emitted h scratch body head_words)
      → WroteIfRoom (encode b.tabs (bindings b.repls ++ xs)) (1 + body.words + bound_size * body.replacements + length head_words) l m
  in_room l m e r w = record {
    needed = needed;
    fits = λ _. w ∙ ap (splice (words l) 0) (encoded e);
    short = λ k. absurd (nothing k);
  }
    where
      nothing : length (words l) < length (encode b.tabs (bindings b.repls ++ xs)) → ⊥
      nothing k = omega (arith, needed)

-- ---- there are such parts: the numbers are small, and the runs lie inside what they are copied from

pub record Bounded (body : Settled) (many size : ℕ) : Type 0 where
  pub needed : 1 + body.words + bound_size * body.replacements + size < 2 ^ 64
  pub atoms : body.atoms < limit12
  pub actions : body.replacements + many < limit12

module _ {scratch : List ℕ} {body : Settled} {many : ℕ} {head_words : List ℕ} (s : Stand scratch body many head_words) where
  pub bounded : length scratch < 2 ^ 62 → length head_words < 2 ^ 62 → Bounded body many (length head_words)
  bounded h k =
      let p = s.parts in
      let f = asks p (1 + body.words + bound_size * body.replacements + length head_words) (omega arith) in
      record {
        needed = omega (arith, f);
        atoms = omega (arith, p.atoms, p.few);
        actions =
            omega (arith, p.replacements, p.actions, p.some, length-append (bindings s.settled.repls) s.kept, length_bindings s.settled.repls);
      }

  pub emit_asks : (room : ℕ) → 1 + body.words + bound_size * body.replacements + length head_words ≤ room → Fits body (length head_words) room (length scratch)
  emit_asks room h = asks s.parts room h

-- ---- what is settled has such parts, with a head by its words

-- what `finish` ensures: n words are needed, and the output o has become m
abbrev pub Finishes : List ℕ → Settled → (many : ℕ) (head_words : List ℕ) (n : ℕ) (o m : List ℕ) → Type 0
Finishes scratch body many head_words n o m =
    (b : rules.Settled) (head : List CoreAction) → Parts b head scratch body many head_words
    → WroteIfRoom (encode b.tabs (bindings b.repls ++ head)) n o m

pub settled_parts : {s : Sig} {atoms : List Atom} {l m : List ℕ} {at n : ℕ} {body : Settled} → SettledAt s atoms l m at n body
    → (head : List CoreAction) (many : ℕ) (head_words : List ℕ) → head_words ≡ words_of action_words head
    → many ≡ length head → (length (rules.settle s atoms).tabs < limit12) × (length (bindings (rules.settle s atoms).repls ++ head) < limit12)
    → Parts (rules.settle s atoms) head m body many head_words
settled_parts d head many head_words there k few =
    record {
      tabs = d.tabs;
      words = d.words;
      atoms = d.atoms;
      binds = d.binds;
      replacements = d.replacements;
      head = there;
      actions = k;
      few = few.0;
      some = few.1;
    }
