-- The stars and the kind of a side as contracts see them, for functions that callers of `gix_refspec` can't reach.
use Rattle.std.specs.Prelude.{ℕ, List}
use Rattle.gix_refspec_text.specs.declared.side.Stars.{Stars}
use Rattle.gix_refspec_text.specs.declared.side.SideKind.{SideKind as DeclaredKind}
use Rattle.gix_refspec_text.specs.Texts.Words.{Lacks}
use Rattle.gix_refspec_text.specs.Texts.Name.{IsSplit, HasSeveralStars}
use Rattle.gix_refspec_text.specs.Texts.Bytes.{star}
use Rattle.gix_refspec_text.specs.Texts.ObjectId.{id_bytes}
use Rattle.gix_refspec_text.specs.Matching.Side.{SideKind, pattern, full_name, object, partial}
use Rattle.gix_refspec_text.specs.declared.side.Stars.TheVariants as stars
use Rattle.gix_refspec_text.specs.declared.side.SideKind.TheVariants as declared_kind

-- how many stars x has, and the texts before and after its only one
abbrev pub AreStarsOf : List ℕ → Stars → Type 0
AreStarsOf x stars.No = Lacks star x
AreStarsOf x (stars.One before after) = IsSplit before.now after.now x
AreStarsOf x stars.Several = HasSeveralStars x

-- the kind of a side, from the declared type
abbrev pub kind_of_side : DeclaredKind → SideKind
kind_of_side (declared_kind.Pattern before after) = pattern before.now after.now
kind_of_side (declared_kind.FullName name) = full_name name.now
kind_of_side (declared_kind.Object id) = object (id_bytes id)
kind_of_side (declared_kind.Partial name) = partial name.now
