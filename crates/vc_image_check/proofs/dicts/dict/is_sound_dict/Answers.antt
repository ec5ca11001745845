use Rattle.vc_base.proofs.Common.{◌≡◌, true, if◌then◌else◌, map, AreDistinct, contains, sym, ap, ◌∙◌, subst}
use Rattle.vc_image_check.specs.Bytes.Contents.{dict_row_at}
use Rattle.vc_image_check.specs.Marks.Mark.{lists, mark_in}
use Rattle.vc_image_check.specs.Blocks.Blocks.{image_blocks}
use Rattle.vc_image_check.specs.Dicts.Sound.{IsSoundRow, own_of}
use Rattle.vc_image_check.proofs.Once.{free-sound, more-taken, row-there, sound-free}
use Rattle.vc_image_check.proofs.dicts.dict.is_sound_dict.Given.{Over}
use Rattle.vc_image_check.proofs.dicts.dict.is_sound_dict.Goals as goal
use Rattle.vc_image_check.proofs.dicts.dict.is_sound_dict.Goals.{In-Some}

-- the dictionary is sound by itself, and these are its blocks
told : (g : Over) (c : In-Some g)
    → IsSoundRow (map g.D.DictDisc.rules c.args.kinds.now.items) (image_blocks c.args.image.now) (dict_row_at c.args.at c.args.image.now)
    × (c.in-Some.own.items ≡ own_of (image_blocks c.args.image.now) (dict_row_at c.args.at c.args.image.now))
told g c = rw c.in-Some.is at c.in_ok-own.ensures.some

pub take_blocks-requires : goal.take_blocks-requires
take_blocks-requires g c =
    let t = told g (goal.at.take_blocks-requires g c).In-Some in
    subst AreDistinct (sym (c.deref.ensures.value ∙ t.1)) (row-there _ _ _ t.0).distinct

pub returns-in-Some-clause-sound : goal.returns-in-Some-clause-sound
returns-in-Some-clause-sound g c = λ taken are.
    let t = told g (goal.at.returns-in-Some-clause-sound g c).In-Some in
    let list = c.deref.ensures.value ∙ t.1 in (
      λ yes. free-sound _ _ _ _ _ c.requires.known t.0 taken are (λ a w. c.take_blocks.ensures.taken.0 yes a (subst (λ z. contains z a ≡ true) (sym list) w)),
      λ d. c.take_blocks.ensures.taken.1 (λ a w. sound-free _ _ _ _ _ c.requires.known t.0 taken are d a (subst (λ z. contains z a ≡ true) list w)),
    )

pub returns-in-Some-clause-taken : goal.returns-in-Some-clause-taken
returns-in-Some-clause-taken g c = λ yes taken are.
    let t = told g (goal.at.returns-in-Some-clause-taken g c).In-Some in
    more-taken _ _ _ _ _ c.requires.known t.0 taken are (lists c.take_blocks.new.marks.rows.items)
    (λ a. c.take_blocks.ensures.marks yes a ∙ ap (λ z. if contains z a then 4 else mark_in c.args.marks.now a) (c.deref.ensures.value ∙ t.1))
