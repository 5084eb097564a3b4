-- What a caller of the reader knows: from its answer, which words `read_lines` gives or how it refuses. Assumes nothing.
use mathlib.Core.Path.{◌≡◌, refl, sym, ap, ◌∙◌}
use mathlib.Core.List.{List}
use Prim.Native.Nat.{ℕ}
use native.Mathlib.Omega.{arith}
use lib.ListN.{length}
use Rattle.std.specs.Prelude.{Ok, Err}
use Rattle.octets.specs.Regions.{splice, part}
use Rattle.octets.proofs.Splice.{part_splice}
use Rattle.rules.specs.Refusals.{Res, ok, refuse}
use Rattle.rules.specs.Program.{read_lines}
use Rattle.meaning.proofs.Results.{ok_inj, refuse_ok}
use Rattle.refusals.specs.Numbers.{number_of, told}
use Rattle.refusals.specs.declared.Refusal.{Refusal}
use Rattle.lines.specs.Reading.{stored, LinesRead}

pub words_read : {input before after : List ℕ} {n : ℕ} → LinesRead input before after (Ok n) → read_lines input ≡ ok (part after 0 n)
words_read {input} {before} {after} {n} r = go (read_lines input) refl
  where
    go : (x : Res (List ℕ)) → read_lines input ≡ x → read_lines input ≡ ok (part after 0 n)
    go (ok ws) is =
        let count : n ≡ length ws = ok_inj _ _ (r.answers ∙ ap (told length) is) in
        let row : after ≡ splice before 0 ws = r.writes ∙ ap (λ (x : Res (List ℕ)). splice before 0 (stored input x)) is in
        is ∙ ap ok (sym ((λ j. part (row j) 0 (count j)) ∙ part_splice before 0 ws (omega arith)))
    go (refuse k p) is = absurd (refuse_ok _ _ _ (sym (r.answers ∙ ap (told length) is)))

pub line_refused : {input before after : List ℕ} {e : Refusal} → LinesRead input before after (Err e) → read_lines input ≡ refuse (number_of e.reason) e.place
line_refused {input} {e = e} r = go (read_lines input) refl
  where
    -- a refusal of one kind of result as one of another
    again : (n m p q : ℕ) → ◌≡◌ {A = Res ℕ} (refuse n p) (refuse m q) → ◌≡◌ {A = Res (List ℕ)} (refuse m q) (refuse n p)
    again n m p q e = cc

    go : (x : Res (List ℕ)) → read_lines input ≡ x → read_lines input ≡ refuse (number_of e.reason) e.place
    go (ok ws) is = absurd (refuse_ok _ _ _ (r.answers ∙ ap (told length) is))
    go (refuse k p) is =
        let same : ◌≡◌ {A = Res ℕ} (refuse (number_of e.reason) e.place) (refuse k p) = r.answers ∙ ap (told length) is in
        is ∙ again _ _ _ _ same
