-- The code's linker.
use Rattle.format_compiler.specs.declared.linking.Linker.{Linker}
use Rattle.format_compiler.specs.Linking.{Links}

abbrev pub links_of : Linker → Links
links_of l = record { code = l.code; targets = l.targets }
