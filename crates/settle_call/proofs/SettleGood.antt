-- Settling a good flat rule. What is known at a step of `settle_good` is a record over the words before and after it: `Found`, `Copied`, `Done`.
-- What holds of the rule holds under every signature under which the words are one, `SomeFlat`. Assumes nothing.
use Prim.Native.Nat.{ℕ, ◌+◌, ◌-◌, ◌*◌, ◌≤◌, ◌<◌}
use native.Mathlib.Omega.{arith}
use mathlib.Core.Path.{◌≡◌, refl, sym, ◌∙◌, ap, subst}
use mathlib.Core.Bool.{true}
use mathlib.Core.List.{List, [], ◌∷◌, ◌++◌}
use lib.ListN.{length, get_or}
use lib.Dec.{leb}
use Rattle.octets.specs.Words.{Got}
use Rattle.octets.specs.Regions.{splice, part, At}
use Rattle.octets.proofs.Places.{at_splice, at_left, at_right}
use Rattle.octets.proofs.Splice.{part_all, length_part}
use Rattle.rules.specs.Words.{limit12, max_flat, header_base, header_word, is_header_word, facts_of, actions_of}
use Rattle.rules.specs.Refusals.{ok, unfit}
use Rattle.rules.specs.Signature.{Sig}
use Rattle.rules.specs.Written.{read_word, read_row}
use Rattle.rules.specs.Flat.{Atom, FlatRule, atom_words, action_words, words_of, read_atom, read_core_action, read_flat}
use Rattle.rules.specs.RemoveDupVars as rules
use Rattle.words.proofs.Ranges.{within_true}
use Rattle.meaning.proofs.Results.{bind_ok, demand_ok}
use Rattle.meaning.proofs.ReadSizes.{row_size}
use Rattle.meaning.proofs.ReadFlatSizes.{total_words, core_action_size, flat_size}
use Rattle.meaning.proofs.ResultBounds.{settled_counts}
use Rattle.signature.specs.declared.Signature.{Signature}
use Rattle.records.proofs.FlatWords.{word_read, row_spelled, action_spelled, flat_spelled}
use Rattle.bodies.specs.Terms.{Agrees}
use Rattle.bodies.specs.declared.terms.Sign.{Sign}
use Rattle.bodies.specs.Standing.{BodyAt}
use Rattle.settling.specs.declared.Settled.{Settled}
use Rattle.settling.specs.Settle.{SettleAsks, SettledAt}
use Rattle.settling.proofs.Settling.{settle_asks}
use Rattle.emitting.specs.Emit.{Parts, Stand}
use Rattle.free_vars.specs.Head.{Good, SomeGood, Actions}
use Rattle.settle_call.specs.Settle.{FlatUnder, SomeFlat, EndedWith}
use Rattle.emitting.proofs.Emitting.{part_at, Finishes, settled_parts}

-- ---- the header of a flat rule

record Parted (ws : List ℕ) (f : FlatRule) : Type 0 where
  header : is_header_word (get_or ws 0 0) ≡ true
  actions : length f.actions ≡ actions_of (get_or ws 0 0)

parted : (s : Sig) (ws : List ℕ) (f : FlatRule) → read_flat s ws ≡ ok f → Parted ws f
parted s ws f e =
    let h = bind_ok (read_word ws is_header_word 0) _ f e in
    let a = bind_ok (read_row (read_atom s ws) (facts_of h.0.value) h.0.at) _ f h.2 in
    let x = bind_ok (read_row (read_core_action s ws) (actions_of h.0.value) a.0.at) _ f a.2 in
    let k = word_read ws is_header_word 0 h.0 h.1 in
    let z = row_spelled ws action_words (read_core_action s ws) (action_spelled s ws) (actions_of h.0.value) a.0.at x.0 x.1 in
    subst (Parted ws) (demand_ok (leb (length ws) x.0.at) unfit x.0.at _ f x.2).1 (record { header = k.2; actions = z.1 ∙ ap actions_of k.0 })

at_whole : (l : List ℕ) → At l l 0
at_whole l = record { within = omega arith; words = part_all l }

module _ {ws : List ℕ} {g : Signature} (t : SomeFlat ws g) where
  abbrev atoms_there : List ℕ
  atoms_there = words_of atom_words t.rule.atoms

  abbrev actions_there : List ℕ
  actions_there = words_of action_words t.rule.actions

  known : Parted ws t.rule
  known = parted t.sig ws t.rule t.under.read

  good : Good t.sig ws t.rule
  good = record { few = t.under.few_heads; read = t.under.read }

  size : 1 + length atoms_there + length actions_there ≡ length ws
  size = flat_size t.sig ws t.rule t.under.read

  pub some_word : 0 < length ws
  some_word = omega (arith, size)

  behind : At (atoms_there ++ actions_there) ws 1
  behind =
      let h = header_word (length t.rule.atoms) (length t.rule.actions) in
      at_right (h ∷ []) 1 (subst (λ (l : List ℕ). At l ws 0) (flat_spelled t.sig ws t.rule t.under.read) (at_whole ws)) refl

  -- settling takes these two numbers
  pub few_globals : g.globals ≤ limit12
  few_globals = omega (arith, t.under.same_globals, t.under.few_globals_lem)

  pub known_equals : g.equals < limit12
  known_equals = omega (arith, t.under.same_equals, t.under.known_equals, t.under.few_heads)

  agrees : {q : Sign} → q.globals ≡ g.globals → q.equals ≡ g.equals → Agrees q t.sig
  agrees globals equals = record { globals = globals ∙ t.under.same_globals; equals = equals ∙ t.under.same_equals }

-- it has a header
module _ {ws : List ℕ} {g : Signature} (t : SomeFlat ws g) where
  pub some_good : SomeGood ws
  some_good = record { sig = t.sig; rule = t.rule; good = good t }

  pub header_there : {w : ℕ} → Got ws 0 w → header_base ≤ w
  header_there got = omega (arith, got.is, (within_true header_base (limit12 * limit12) (get_or ws 0 0) (known t).header).0)

-- ---- the actions start at `at`, and there is a scratch l

pub record Found (ws : List ℕ) (g : Signature) (l : List ℕ) (at : ℕ) : Type 0 where
  pub some : SomeFlat ws g
  pub enough : 16 * length ws ≤ length l
  pub ends : (t : SomeFlat ws g) → at ≡ 1 + length (atoms_there t)
  pub from : 1 ≤ at
  pub inside : at ≤ length ws
  pub short : length ws ≤ max_flat

pub found : {ws : List ℕ} {g : Signature} {l : List ℕ} {at : ℕ} → SomeFlat ws g → 16 * length ws ≤ length l
    → ((s : Sig) (f : FlatRule) → Good s ws f → Actions s ws at f.actions) → Found ws g l at
found {ws} {g} {l} {at} some enough starts =
    record { some = some; enough = enough; ends = ends; from = omega (arith, ends some); inside = omega (arith, ends some, size some); short = some.under.short }
  where
    ends : (t : SomeFlat ws g) → at ≡ 1 + length (atoms_there t)
    ends t =
        let a = starts t.sig t.rule (good t) in
        let k = row_size (λ x. length (action_words x)) (length ws) (read_core_action t.sig ws) (core_action_size t.sig ws) a.some at _ a.within a.read in
        omega (arith, k.after, k.inside, a.all, total_words action_words t.rule.actions, size t)

module _ {ws : List ℕ} {g : Signature} {l : List ℕ} {at : ℕ} (f : Found ws g l at) where
  pub part_asks : 1 + (at - 1) ≤ length ws
  part_asks = omega (arith, f.from, f.inside)

  pub copy_asks : {xs : List ℕ} → xs ≡ part ws 1 (at - 1) → 0 + length xs ≤ length l
  copy_asks e = omega (arith, ap length e, length_part ws 1 (at - 1) part_asks, f.inside, f.enough)

  actions_at : (t : SomeFlat ws g) → At (actions_there t) ws at
  actions_at t = at_right (atoms_there t) at (behind t) (f.ends t)

-- ---- they are copied to the front of the scratch, which leaves m

pub record Copied (ws : List ℕ) (g : Signature) (at : ℕ) (m : List ℕ) : Type 0 where
  pub body : (t : SomeFlat ws g) → BodyAt t.rule.atoms m 0 (at - 1)
  pub asks : SettleAsks m 0 (at - 1)

module _ {ws : List ℕ} {g : Signature} {l : List ℕ} {at : ℕ} (f : Found ws g l at) where
  pub copied : {m xs : List ℕ} → length m ≡ length l → xs ≡ part ws 1 (at - 1) → m ≡ splice l 0 xs → Copied ws g at m
  copied {m} kept is put =
      let body : (t : SomeFlat ws g) → BodyAt t.rule.atoms m 0 (at - 1) = λ t. body_at t in
      let i = f.inside in
      let s = f.short in
      record { body = body; asks = settle_asks f.some.rule.atoms m 0 (at - 1) (body f.some) (omega (arith, f.enough, f.from)) (omega arith) }
    where
      body_at : (t : SomeFlat ws g) → BodyAt t.rule.atoms m 0 (at - 1)
      body_at t =
          let n : at - 1 ≡ length (atoms_there t) = omega (arith, f.ends t) in
          let room : 0 + length (atoms_there t) ≤ length l = omega (arith, size t, f.enough) in
          let there = ap (splice l 0) (is ∙ ap (part ws 1) n ∙ (at_left (actions_there t) (behind t)).words) in
          record { fits = t.under.fits; size = n; at = subst (λ (k : List ℕ). At (atoms_there t) k 0) (sym (put ∙ there)) (at_splice l 0 (atoms_there t) room) }

-- ---- they are settled: body, with z left behind

pub record Done (ws : List ℕ) (g : Signature) (at : ℕ) (m : List ℕ) (body : Settled) (z : List ℕ) : Type 0 where
  pub done : (t : SomeFlat ws g) → SettledAt t.sig t.rule.atoms m z 0 (at - 1) body

module _ {ws : List ℕ} {g : Signature} {at : ℕ} {m : List ℕ} (c : Copied ws g at m) where
  pub is_done : {body : Settled} {z : List ℕ} {q : Sign} → q.globals ≡ g.globals → q.equals ≡ g.equals
      → ((s : Sig) (xs : List Atom) → Agrees q s → BodyAt xs m 0 (at - 1) → SettledAt s xs m z 0 (at - 1) body) → Done ws g at m body z
  is_done globals equals settles = record { done = λ t. settles t.sig t.rule.atoms (agrees t globals equals) (c.body t) }

module _ {ws : List ℕ} {g : Signature} {l : List ℕ} {at : ℕ} (f : Found ws g l at) {m : List ℕ}
    {body : Settled} {z : List ℕ} (d : Done ws g at m body z) {k : ℕ} (all : k ≡ length ws)
    {xs : List ℕ} (rest : xs ≡ part ws at (k - at)) {n : ℕ} (counted : n ≡ actions_of (get_or ws 0 0)) where
  parts : (t : SomeFlat ws g) → Parts (rules.settle t.sig t.rule.atoms) t.rule.actions z body n xs
  parts t =
      settled_parts (d.done t) t.rule.actions n xs
      (rest ∙ part_at (actions_there t) ws at (k - at) (actions_at f t) (omega (arith, f.ends t, size t)))
      (counted ∙ sym (known t).actions) (settled_counts t.sig ws t.rule t.under.read t.under.short)

  pub stand : Stand z body n xs
  stand = record { settled = rules.settle f.some.sig f.some.rule.atoms; kept = f.some.rule.actions; parts = parts f.some }

  pub ended : {many : ℕ} {o p : List ℕ} → Finishes z body n xs many o p
      → (s : Sig) (r : FlatRule) → FlatUnder ws g s r → EndedWith s r (record { words = many; replacements = body.replacements; passes = body.passes }) o p
  ended h s r u =
      let t : SomeFlat ws g = record { sig = s; rule = r; under = u } in
      record { wrote = h (rules.settle s r.atoms) r.actions (parts t); replacements = (d.done t).replacements; passes = (d.done t).passes }
