use borrow.Rule.Slice.PartMut.{put_mid}
use Rattle.std.proofs.Common.{◌≡◌, ℕ, ◌+◌, ◌-◌, replicate, ap, ◌∙◌, subst, arith, rules}
use Rattle.std.proofs.lemmas.List.{length-take, length-drop}
use Rattle.memory.specs.Bytes.{held, cleared}
use Rattle.memory.proofs.Rows.{cleared_part}
use Rattle.memory.proofs.bytes.wipe.Goals as goal

pub returns : goal.returns
returns c =
    let a = c.args.area.start in
    let n = c.args.area.length in
    let xs = c.args.bytes.now in
    let ys = c.fill.new.self in
    let e : n ≡ a + n - a = omega arith in
    let zeros : ys ≡ replicate n 0 = c.fill.ensures.after (λ y h. search rules) ∙ ap (λ (k : ℕ). replicate k 0) (simp (length-take, length-drop) (omega (arith, c.requires))) in
    subst (λ (k : ℕ). held (put_mid a k xs ys) ≡ cleared (held xs) a n) e (cleared_part xs ys a n c.requires zeros)
