-- The words for the reasons why expectations are refused.
use Rattle.std.specs.Prelude.{ℕ, List, codes}
use Rattle.pct_expect.specs.declared.fault.ExpectWhy.{ExpectWhy}
use Rattle.pct_expect.specs.declared.fault.ExpectWhy.TheVariants as why

-- the word for each reason
unfoldable pub why_text : ExpectWhy → List ℕ
why_text why.BadLine = codes "bad_line"
why_text why.TooMany = codes "too_many"
why_text why.NoRule = codes "no_rule"
