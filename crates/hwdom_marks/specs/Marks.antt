-- The domain that a mark names.
use Rattle.std.specs.Prelude.{ℕ}
use Rattle.std.specs.declared.option.Option.{Option}
use Rattle.std.specs.declared.option.Option.TheVariants.{None, Some}
use Rattle.hwdom_marks.specs.declared.Mark.{Mark}

abbrev pub domain_marked : Option Mark → Option ℕ
domain_marked None = None
domain_marked (Some mark) = Some mark.dom
