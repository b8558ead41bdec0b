-- What is requested for the other specs, beside the ref prefixes and `refs/` if these specs are fewer than all.
use Rattle.std.proofs.Common.{List, map, subst}
use Rattle.bstr.specs.Owned.{bstring_bytes}
use Rattle.gix_refspec.specs.declared.match_group.prefixes.RefPrefixes.TheVariants as requested
use Rattle.gix_refspec.specs.Views.Spec.{reading_of}
use Rattle.gix_refspec_text.specs.declared.spec.RefSpecRef.{RefSpecRef}
use Rattle.refspec_commands.specs.Prefixes.{AreReasons}
use Rattle.refspec_commands.proofs.PrefixLemmas.{RequestsBeside-whole}
use Rattle.refspec_commands.proofs.prefixes.answer.answer_to.Goals as goal

pub whole_of-requires : goal.whole_of-requires
whole_of-requires c = rw c.as_slice.ensures.value c.in_ok-others.ensures

pub returns-in-Nothing : goal.returns-in-Nothing
returns-in-Nothing c = record {
  others = map reading_of c.in_ok-others.others.items;
  are = c.in_ok-others.ensures;
  whole = map bstring_bytes c.in_ok-whole.whole.items;
  is_whole = rw c.as_slice.ensures.value at c.in_ok-whole.ensures;
  answers = RequestsBeside-whole c.append.new.self.items c.args.beside.items c.in_ok-whole.whole.items
      (map reading_of c.in_ok-others.others.items) requested.Nothing c.in_ok-append.ensures.items
      (rw c.in-Nothing.is at c.in_ok-ref_prefixes_beside.ensures.ok);
}

pub returns-in-Listed : goal.returns-in-Listed
returns-in-Listed c = record {
  others = map reading_of c.in_ok-others.others.items;
  are = c.in_ok-others.ensures;
  whole = map bstring_bytes c.in_ok-whole.whole.items;
  is_whole = rw c.as_slice.ensures.value at c.in_ok-whole.ensures;
  answers = RequestsBeside-whole c.append.new.self.items c.args.beside.items c.in_ok-whole.whole.items
      (map reading_of c.in_ok-others.others.items) (requested.Listed c.in-Listed.list) c.in_ok-append.ensures.items
      (rw c.in-Listed.is at c.in_ok-ref_prefixes_beside.ensures.ok);
}

pub returns : goal.returns
returns c = record {
  others = map reading_of c.in_ok-others.others.items;
  are = c.in_ok-others.ensures;
  whole = map bstring_bytes c.in_ok-whole.whole.items;
  is_whole = rw c.as_slice.ensures.value at c.in_ok-whole.ensures;
  answers = (
    RequestsBeside-whole c.append.new.self.items c.args.beside.items c.in_ok-whole.whole.items
        (map reading_of c.in_ok-others.others.items) requested.All c.in_ok-append.ensures.items
        (rw c.in-All.is at c.in_ok-ref_prefixes_beside.ensures.ok),
    subst (λ (l : List RefSpecRef). AreReasons (map reading_of l)
        (map reading_of c.in_ok-reasons_among-in-All.field-0.items)) c.as_slice-in-All.ensures.value
        c.in_ok-reasons_among-in-All.ensures,
  );
}
