-- Resolving words, run by run and equality by equality, is `resolve`. Assumes nothing.
use mathlib.Core.Bool.{Bool, false, true}
use mathlib.Core.List.{List, [], ◌++◌, ◌∷◌, append_assoc, append-nil}
use mathlib.Core.Path.{◌∙◌, ◌≡◌, ap, refl, subst, sym}
use Prim.Native.Nat.{◌+◌, ◌-◌, ◌^◌, ◌<◌, ◌≤◌, ℕ}
use native.Mathlib.Omega.{arith}
use lib.ListN.{get_or, length}
use Rattle.octets.proofs.Places.{at_splice, at_word, only_same, only_splice, only_then, only_wide}
use Rattle.octets.specs.Regions.{At, Only, part, splice}
use Rattle.rules.specs.Canonicalize.{resolve, resolve_eq}
use Rattle.rules.specs.Flat.{Atom, Tab, atom_words, eqn, tab, tab_words, words_of}
use Rattle.rules.specs.Signature.{Sig, same_term}
use Rattle.rules.specs.Words.{limit12}
use Rattle.meaning.proofs.Encodable.{resolve_encodable}
use Rattle.meaning.proofs.Lists.{length_words_append}
use Rattle.meaning.proofs.MergePass.{IsEqn}
use Rattle.meaning.specs.ReadBack.{Encodable}
use Rattle.words.specs.Atom.{equality_size}
use Rattle.words.specs.declared.Atom as word
use Rattle.bodies.specs.Standing.{AtomsAt, Bare, TabsAt, atoms_in, left_at, right_at}
use Rattle.bodies.proofs.Standing.{First, atoms_ahead, atoms_before, atoms_is, atoms_read, bare_resolve, first_atom, no_tabs, none_left, tabs_before, tabs_join, lent_whole}
use Rattle.canonicalize.specs.Canonicalize.{ResolveAsks, ResolveOneAsks, Resolved, others_in, resolve_at, resolve_terms, until_eqn}
use Rattle.canonicalize.proofs.Replacing.{Equality, eqn_size, eqn_word}
use Rattle.canonicalize.proofs.Runs.{StartsEqn, from_starts, from_eqn, run_inside, run_rest, run_tabs, until_resolve}

-- ---- one equality

pub resolve_pair : (s : Sig) (l : List ℕ) (p : ℕ) {a b : ℕ} → a ≡ left_at l p → b ≡ right_at l p → resolve_terms (same_term a b) s a b ≡ resolve_at s l p
unfolding resolve_at
resolve_pair s l p ea eb = λ i. resolve_terms (same_term (ea i) (eb i)) s (ea i) (eb i)

-- as it was read
pub resolve_read : (s : Sig) {l : List ℕ} {p a b : ℕ} {r : word.Atom} → Equality l p r → a ≡ get_or l r.terms 0 → b ≡ get_or l (r.terms + 1) 0
    → resolve_terms (same_term a b) s a b ≡ resolve_at s l p
resolve_read s {l} {p} q ea eb = resolve_pair s l p (ea ∙ ap (λ (k : ℕ). get_or l k 0) q.left) (eb ∙ ap (λ (k : ℕ). get_or l k 0) q.right)

pub resolve_atom : (s : Sig) (l : List ℕ) (p : ℕ) (x : Atom) → IsEqn x → At (atom_words x) l p → resolve_at s l p ≡ words_of tab_words (resolve s (x ∷ []))
resolve_atom s l p (tab t) h k = absurd h
resolve_atom s l p (eqn r a b) h k = sym (resolve_pair s l p (sym (at_word 1 k (omega arith))) (sym (at_word 2 k (omega arith)))) ∙ go (same_term a b)
  where
    go : (c : Bool) → resolve_terms c s a b ≡ words_of tab_words (resolve_eq s c r a b [])
    go true = refl
    go false = refl

-- what it becomes is written at q
pub resolved_there : (s : Sig) (x : Atom) {m : List ℕ} {p : ℕ} (q : ℕ) → s.value_eq < limit12 → IsEqn x → Encodable x → Bare x → At (atom_words x) m p
    → q + length (resolve_at s m p) ≤ length m → TabsAt (resolve s (x ∷ [])) (splice m q (resolve_at s m p)) q (length (resolve_at s m p))
resolved_there s x {m} {p} q v is fits bare stands h =
    let new : List ℕ = resolve_at s m p in
    let wrote : new ≡ words_of tab_words (resolve s (x ∷ [])) = resolve_atom s m p x is stands in
    record {
      fits = resolve_encodable s v (x ∷ []) (fits, tt);
      bare = bare_resolve s (x ∷ []) (bare, tt);
      size = ap length wrote;
      at = subst (λ (ws : List ℕ). At ws (splice m q new) q) wrote (at_splice m q new h);
      within = omega (arith, (only_splice m q new (q + length new) refl h).size);
    }

pub resolve_cons : (s : Sig) (x : Atom) (xs : List Atom) → resolve s (x ∷ xs) ≡ resolve s (x ∷ []) ++ resolve s xs
resolve_cons s (tab t) xs = refl
resolve_cons s (eqn p a b) xs = go (same_term a b)
  where
    go : (c : Bool) → resolve_eq s c p a b (resolve s xs) ≡ resolve_eq s c p a b [] ++ resolve s xs
    go true = refl
    go false = refl

-- ---- the loop on its way: i words are passed, k are written

pub record Resolving (s : Sig) (l m : List ℕ) (from n to i k : ℕ) : Type 0 where
  pub written : List Tab
  pub todo : List Atom
  pub same : resolve s (atoms_in l from n) ≡ written ++ resolve s todo
  pub atoms : AtomsAt todo m (from + i) (n - i)
  pub tabs : TabsAt written m to k
  pub only : Only l m to (to + k)
  pub inside : i ≤ n
  pub room : k + length (words_of tab_words (resolve s todo)) ≡ length (words_of tab_words (resolve s (atoms_in l from n)))

-- what it has read and written is inside, and fits
pub record Bounds (from n to i k : ℕ) : Type 0 where
  pub inside : i ≤ n
  pub read : from + n < 2 ^ 64
  pub written : to + k < 2 ^ 64

-- a run of other atoms is next: r words
pub record Run {s : Sig} {l m : List ℕ} {from n to i k : ℕ} (w : Resolving s l m from n to i k) (r : ℕ) : Type 0 where
  pub size : r ≡ length (words_of tab_words (until_eqn w.todo))
  pub inside : i + r ≤ n
  pub room : to + k + r ≤ length m
  pub stands : TabsAt (until_eqn w.todo) m (from + i) r
  pub clear : from + i + r ≤ to + k

-- it is carried, so that an equality is next, if anything
pub record Ran (s : Sig) (l m : List ℕ) (from n to i k : ℕ) : Type 0 where
  pub here : Resolving s l m from n to i k
  pub first : StartsEqn here.todo

module _ {s : Sig} {l : List ℕ} {from n to : ℕ} (c : ResolveAsks s l from n to) where
  pub resolving_start : Resolving s l l from n to 0 0
  resolving_start =
      record {
        written = [];
        todo = atoms_in l from n;
        same = refl;
        atoms = atoms_ahead c.atoms;
        tabs = no_tabs l to (omega (arith, c.room));
        only = only_same l to (to + 0);
        inside = omega arith;
        room = omega arith;
      }

  module _ {m : List ℕ} {i k : ℕ} (w : Resolving s l m from n to i k) where
    pub bounds : length l < 2 ^ 64 → Bounds from n to i k
    bounds fits = record { inside = w.inside; read = omega (arith, c.atoms.within); written = omega (arith, w.tabs.within, w.only.size) }

    pub others_here : AtomsAt (atoms_in m (from + i) (n - i)) m (from + i) (n - i)
    others_here = atoms_read m (from + i) (n - i) w.todo w.atoms

    abbrev run : List Tab
    run = until_eqn w.todo

    abbrev rest : List Atom
    rest = from_eqn w.todo

    run_sizes : {r : ℕ} → r ≡ length (words_of tab_words run) → length (words_of tab_words (resolve s w.todo)) ≡ r + length (words_of tab_words (resolve s rest))
    run_sizes size =
        ap (λ (ts : List Tab). length (words_of tab_words ts)) (until_resolve s w.todo) ∙ length_words_append tab_words run (resolve s rest)
        ∙ ap (λ (j : ℕ). j + length (words_of tab_words (resolve s rest))) (sym size)

    -- as it is told by the words that are lent
    pub run_next : {ws : List ℕ} {r : ℕ} → ws ≡ part m (from + i) (n - i) → r ≡ others_in ws 0 (length ws) → Run w r
    run_next {ws} {r} lent e =
        let whole = lent_whole m (from + i) (n - i) lent w.atoms.within in
        let same = whole ∙ atoms_is m (from + i) (n - i) w.todo w.atoms in
        let size = e ∙ ap (λ (xs : List Atom). length (words_of tab_words (until_eqn xs))) same in
        let inside : i + r ≤ n = omega (arith, w.inside, run_inside w.atoms size) in
        record {
          size = size;
          inside = inside;
          room = omega (arith, w.room, run_sizes size, c.room, w.only.size);
          stands = run_tabs w.atoms size;
          clear = omega (arith, c.clear);
        }

    -- the run is carried
    module _ {r : ℕ} (g : Run w r) where
      words_are : part m (from + i) r ≡ words_of tab_words run
      words_are = ap (part m (from + i)) g.size ∙ g.stands.at.words

      pub resolving_run : {m₂ : List ℕ} → m₂ ≡ splice m (to + k) (part m (from + i) r) → Ran s l m₂ from n to (i + r) (k + r)
      resolving_run {m₂} em =
          let new : List ℕ = words_of tab_words run in
          let m₁ : List ℕ = splice m (to + k) new in
          let o : Only m m₁ (to + k) (to + (k + r)) = only_splice m (to + k) new (to + (k + r)) (omega (arith, g.size)) (omega (arith, g.room)) in
          let behind : TabsAt run m₁ (to + k) r =
          record {
            fits = g.stands.fits;
            bare = g.stands.bare;
            size = g.size;
            at = at_splice m (to + k) new (omega (arith, g.room, g.size));
            within = omega (arith, o.size, g.room);
          } in
          subst (λ (x : List ℕ). Ran s l x from n to (i + r) (k + r)) (sym (em ∙ ap (splice m (to + k)) words_are))
          (record {
            here = record {
              written = w.written ++ run;
              todo = rest;
              same = w.same ∙ ap (λ (ts : List Tab). w.written ++ ts) (until_resolve s w.todo) ∙ sym (append_assoc w.written run (resolve s rest));
              atoms = atoms_before o (run_rest w.atoms g.size (from + (i + r)) (n - (i + r)) (omega arith) (omega arith))
                  (omega (arith, g.inside, c.clear));
              tabs = tabs_join w.written run m₁ to k (to + k) r (tabs_before o w.tabs (omega arith)) behind refl;
              only = only_then (only_wide to (to + (k + r)) w.only (omega arith) (omega arith)) (only_wide to (to + (k + r)) o (omega arith) (omega arith));
              inside = g.inside;
              room = omega (arith, w.room, run_sizes g.size);
            };
            first = from_starts w.todo;
          })

  -- then an equality is next, and the words that it becomes
  module _ {m : List ℕ} {i k : ℕ} (g : Ran s l m from n to i k) (h : i < n) where
    abbrev w : Resolving s l m from n to i k
    w = g.here

    next : First w.todo m (from + i) (n - i)
    next = first_atom w.todo m (from + i) (n - i) w.atoms (omega arith)

    is_eqn : IsEqn next.atom
    is_eqn = subst (λ (xs : List Atom). StartsEqn xs) next.is g.first

    size_is : length (atom_words next.atom) ≡ equality_size
    size_is = eqn_size next.atom is_eqn

    equality_inside : i + equality_size ≤ n
    equality_inside = omega (arith, size_is, next.inside)

    wrote : resolve_at s m (from + i) ≡ words_of tab_words (resolve s (next.atom ∷ []))
    wrote = resolve_atom s m (from + i) next.atom is_eqn next.stands

    split : resolve s w.todo ≡ resolve s (next.atom ∷ []) ++ resolve s next.rest
    split = ap (resolve s) next.is ∙ resolve_cons s next.atom next.rest

    sizes : length (words_of tab_words (resolve s w.todo)) ≡ length (resolve_at s m (from + i)) + length (words_of tab_words (resolve s next.rest))
    sizes =
        ap (λ (ts : List Tab). length (words_of tab_words ts)) split
        ∙ length_words_append tab_words (resolve s (next.atom ∷ [])) (resolve s next.rest)
        ∙ ap (λ (ws : List ℕ). length ws + length (words_of tab_words (resolve s next.rest))) (sym wrote)

    pub resolve_one_asks : ResolveOneAsks s m (from + i) (to + k)
    resolve_one_asks =
        record {
          equality = eqn_word next.atom is_eqn next.stands;
          whole = omega (arith, equality_inside, w.atoms.within);
          room = omega (arith, w.room, sizes, c.room, w.only.size);
        }

    -- z words are written for it, and the next atom is at offset j
    pub resolving_next : s.value_eq < limit12 → {m₂ : List ℕ} {z j : ℕ} → z ≡ length (resolve_at s m (from + i))
        → m₂ ≡ splice m (to + k) (resolve_at s m (from + i)) → j ≡ i + equality_size → Resolving s l m₂ from n to j (k + z)
    resolving_next v {m₂} {z} {j} ez em ej =
        let new : List ℕ = resolve_at s m (from + i) in
        let one : List Tab = resolve s (next.atom ∷ []) in
        let m₁ : List ℕ = splice m (to + k) new in
        let o : Only m m₁ (to + k) (to + (k + z)) = only_splice m (to + k) new (to + (k + z)) (omega arith) (omega (arith, resolve_one_asks.room)) in
        let behind = resolved_there s next.atom (to + k) v is_eqn next.fits next.bare next.stands resolve_one_asks.room in
        subst (λ (x : List ℕ). Resolving s l x from n to j (k + z)) (sym em)
        (record {
          written = w.written ++ one;
          todo = next.rest;
          same = w.same ∙ ap (λ (ts : List Tab). w.written ++ ts) split ∙ sym (append_assoc w.written one (resolve s next.rest));
          atoms = atoms_before o (next.after (from + j) (n - j) (omega (arith, size_is)) (omega (arith, size_is)))
              (omega (arith, equality_inside, c.clear));
          tabs = subst (λ (q : ℕ). TabsAt (w.written ++ one) m₁ to (k + q)) (sym ez)
              (tabs_join w.written one m₁ to k (to + k) (length new) (tabs_before o w.tabs (omega arith)) behind refl);
          only = only_then (only_wide to (to + (k + z)) w.only (omega arith) (omega arith)) (only_wide to (to + (k + z)) o (omega arith) (omega arith));
          inside = omega (arith, equality_inside);
          room = omega (arith, w.room, sizes);
        })

pub resolving_end : {s : Sig} {l m : List ℕ} {from n to i k : ℕ} → Resolving s l m from n to i k → n ≤ i → Resolved s l m from n to k
resolving_end {s} {l} {m} {from} {n} {to} {i} {k} w h =
    let e = none_left w.todo m (from + i) (n - i) w.atoms (omega arith) in
    record {
      tabs = subst (λ (ts : List Tab). TabsAt ts m to k)
          (sym (w.same ∙ ap (λ (xs : List Atom). w.written ++ resolve s xs) e ∙ append-nil w.written)) w.tabs;
      only = w.only;
    }
