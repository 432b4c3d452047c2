use Rattle.std.proofs.Common.{ap, sym, ◌∙◌, get_or, false}
use Rattle.vlm_collections.specs.Marks.{marks_of}
use Rattle.vlm_collections.proofs.Numbers.{marked}
use Rattle.vlm_collections.proofs.marks.Marks.has.Goals as goal

pub returns : goal.returns
returns c =
    let number = c.from.result in
    c.has_bit.ensures ∙ sym (marked c.deref.result.now number)
    ∙ ap (λ words. get_or (marks_of words) number false) c.deref.ensures.value
    ∙ ap (λ marks. get_or marks number false) c.self.view_is
    ∙ ap (λ n. get_or c.args.self.now n false) c.from.ensures
