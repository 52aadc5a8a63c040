-- What stands at the start of the room is what the reads consumed, one after another. Assumes nothing.
use Rattle.std.proofs.Common.{◌≡◌, ℕ, ◌+◌, ◌≤◌, List, ◌++◌, rules, length, take, sym, ap, ◌∙◌, subst}
use Rattle.std.proofs.lemmas.List.{length-take-le, take-append-le}
use Rattle.std.proofs.Math.Seq.{take-append-add}
use Rattle.std.specs.Io.KnownBytes.{Consumes}
use Rattle.std.proofs.KnownBytes.{Consumes-nil, Consumes-trans}
use Rattle.input.proofs.read_full.Goals as goal

-- bytes that are put behind the first a of a list
put_behind : (a b : ℕ) (xs ys zs : List ℕ) → a ≤ length xs → b ≤ length ys → take a xs ++ take b ys ≡ take (a + b) (take a xs ++ (ys ++ zs))
put_behind a b xs ys zs within fits =
    let whole = take a xs ++ (ys ++ zs) in
    sym
    (ap (λ n. take (n + b) whole) (sym (length-take-le a xs within))
    ∙ take-append-add (take a xs) (ys ++ zs) b
    ∙ ap (λ l. take a xs ++ l) (take-append-le b ys zs fits))

pub loop-count-init : goal.loop-count-init
loop-count-init g c = (search rules, search rules, Consumes-nil _)

pub loop-count-preserved : goal.loop-count-preserved
loop-count-preserved g c =
    let kept = c.loop-count.invariant in
    let read = c.in_ok-more.ensures in (
      search rules,
      search rules,
      subst (Consumes _ _) (put_behind _ _ _ _ _ kept.0 read.bound.0) (Consumes-trans _ _ _ _ _ kept.2 read.bytes.0),
    )
