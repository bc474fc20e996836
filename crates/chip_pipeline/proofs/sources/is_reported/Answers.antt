use Rattle.std.proofs.Common.{◌&&◌, sym, ◌∙◌}
use Rattle.br_model.specs.Control.Learning.{is_news, is_reserved, may_teach}
use Rattle.chip_pipeline.proofs.Truth.{first-fails, second-fails, third-tells}
use Rattle.chip_pipeline.proofs.sources.is_reported.Goals as goal

pub returns-then-is_reserved : goal.returns-then-is_reserved
returns-then-is_reserved c d dom t stands entry =
    first-fails (is_reserved t c.args.head.now) (may_teach t c.args.port c.args.vid && is_news t (c.args.vid, c.args.head.now.src) c.args.port)
    (sym (c.is_reserved.ensures d dom t stands) ∙ c.if-is_reserved.true)

pub returns-then-not-may_teach : goal.returns-then-not-may_teach
returns-then-not-may_teach c d dom t stands entry =
    second-fails (is_reserved t c.args.head.now) (may_teach t c.args.port c.args.vid) (is_news t (c.args.vid, c.args.head.now.src) c.args.port)
    (sym (c.may_teach.ensures d dom t stands) ∙ c.if-not-may_teach.true)

pub returns : goal.returns
returns c d dom t stands entry =
    c.is_news.ensures t c.args.vid c.args.head.now.src entry
    ∙ third-tells (is_reserved t c.args.head.now) (may_teach t c.args.port c.args.vid) (is_news t (c.args.vid, c.args.head.now.src) c.args.port)
    (sym (c.is_reserved.ensures d dom t stands) ∙ c.if-is_reserved.false) (sym (c.may_teach.ensures d dom t stands) ∙ c.if-not-may_teach.false)
