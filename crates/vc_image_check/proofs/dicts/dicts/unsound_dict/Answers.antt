use Rattle.vc_base.proofs.Common.{◌≡◌, ◌+◌, ◌*◌, Some, length, map, sym, ap, ◌∙◌, arith, true≢false}
use Rattle.std.specs.Prelude.{slice_get}
use Rattle.vc_image_check.specs.Bytes.Contents.{dict_row_at, rows_of_image}
use Rattle.vc_image_check.proofs.Passing.{length-rows, passed-end, passed-next, passed-not, row-there}
use Rattle.vc_image_check.proofs.dicts.dicts.unsound_dict.Given.{Over}
use Rattle.vc_image_check.proofs.dicts.dicts.unsound_dict.Goals as goal
use Rattle.vc_image_check.proofs.dicts.dicts.unsound_dict.Goals.{After-loop-i, In_ok-is_sound_dict}

-- where the dictionary lies that was looked at, and how many there are
there : (g : Over) (c : In_ok-is_sound_dict g) → slice_get (rows_of_image c.args.image.now) c.loop-i.i ≡ Some (dict_row_at (20 + 8 * c.word.result + 36 * c.loop-i.i) c.args.image.now)
there g c =
    row-there c.args.image.now c.loop-i.i (omega (arith, c.loop-i-test.true, c.word-dicts.ensures))
    ∙ ap (λ z. Some (dict_row_at (20 + 8 * z + 36 * c.loop-i.i) c.args.image.now)) (sym c.word.ensures)

many : (g : Over) (c : After-loop-i g) → length (rows_of_image c.args.image.now) ≡ c.loop-i.i
many g c = omega (arith, length-rows c.args.image.now, c.loop-i-test.false, c.loop-i.auto.i-end, c.word-dicts.ensures)

pub returns-then-not-branch-clause-some : goal.returns-then-not-branch-clause-some
returns-then-not-branch-clause-some g c =
    passed-not _ _ _ _ c.loop-i.i _ (there g (goal.at.returns-then-not-branch-clause-some g c).In_ok-is_sound_dict)
    (λ s. true≢false (sym ((c.in_ok-is_sound_dict.ensures.sound _ c.loop-i.invariant.passed.taken).1 s) ∙ c.if-not-branch.true)) c.loop-i.invariant.passed

pub loop-i-preserved : goal.loop-i-preserved
loop-i-preserved g c = record {
  passed = passed-next _ _ _ _ _ c.loop-i.i _ (there g (goal.at.loop-i-preserved g c).In_ok-is_sound_dict)
      ((c.in_ok-is_sound_dict.ensures.sound _ c.loop-i.invariant.passed.taken).0 c.if-not-branch.false)
      (c.in_ok-is_sound_dict.ensures.taken c.if-not-branch.false _ c.loop-i.invariant.passed.taken) c.loop-i.invariant.passed;
  known = c.in_ok-is_sound_dict.ensures.known;
}

pub returns-clause-none : goal.returns-clause-none
returns-clause-none g c = (passed-end _ _ _ _ c.loop-i.i (many g (goal.at.returns-clause-none g c).After-loop-i) c.loop-i.invariant.passed).0

pub returns-clause-taken : goal.returns-clause-taken
returns-clause-taken g c = (passed-end _ _ _ _ c.loop-i.i (many g (goal.at.returns-clause-taken g c).After-loop-i) c.loop-i.invariant.passed).1
