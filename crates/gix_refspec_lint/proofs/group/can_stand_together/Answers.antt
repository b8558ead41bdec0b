use Rattle.gix_refspec_lint.proofs.{Common.{[], start_of}, lemmas.StorableLemmas.{first_object, second_object}}
use Rattle.gix_refspec_lint.proofs.group.can_stand_together.Goals as goal

pub returns-in-ObjectId : goal.returns-in-ObjectId
returns-in-ObjectId c = rw c.in-ObjectId.is (first_object [] (start_of c.args.other.now))

pub returns-in-ObjectId-other : goal.returns-in-ObjectId-other
returns-in-ObjectId-other c = rw c.in-ObjectId-other.is (second_object (start_of c.args.one.now) [])

pub returns-in-FullName-other : goal.returns-in-FullName-other
returns-in-FullName-other c =
    rw (c.in-FullName.is, c.in-FullName-other.is)
    (rw (
      c.as_bytes.ensures,
      c.as_bstr.ensures,
      c.as_bytes-in-FullName-other.ensures,
      c.as_bstr-in-FullName-other.ensures,
    ) at c.names_can_stand_together.ensures)
