-- Document 01's rights beside the two acts that a right is asked for; document 02, request [3]: "the six pairs of right
-- and act .. as cases".
use Rattle.std.specs.Prelude.{ℕ, zero, suc, Bool, true, false}
use Rattle.steps.specs.declared.Act.{Act}
use Rattle.steps.specs.declared.Act.TheVariants.{Read, Write}

-- "Rights: 0 none, 1 read, 2 read and write."
abbrev pub allows : ℕ → Act → Bool
-- 0 none
allows zero Read = false
allows zero Write = false
-- 1 read
allows (suc zero) Read = true
allows (suc zero) Write = false
-- 2 read and write; this case also takes what is above 2, which no sound table has
allows (suc (suc above)) Read = true
allows (suc (suc above)) Write = true
