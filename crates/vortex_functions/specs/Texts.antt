-- When a text is that of a tree.
use Rattle.std.specs.Prelude.{◌≡◌, IfSome, string_bytes, String}
use Rattle.std.specs.declared.alloc.Global.{Global}
use Rattle.vortex_interface.specs.Printing.{tree_text}
use Rattle.vortex_interface.specs.Trees.{Tree}

-- the text of a tree that has one
abbrev pub IsTextOf : {V O : Type 0} → Tree V O → String Global → Type 0
IsTextOf t text = IfSome (tree_text t) (λ bytes. string_bytes text ≡ bytes)
