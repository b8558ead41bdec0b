-- The texts weren't read, or the slices get a plan that something hinders.
use Rattle.std.proofs.Common.{Err, Option, inl, inr, map, refl, subst}
use Rattle.gix_refspec_c.specs.declared.failure.Failure.{Failure}
use Rattle.gix_refspec_c.specs.Group.{bytes_of}
use Rattle.gix_refspec_c.specs.Planning.{IsPlan, wish_texts}
use Rattle.gix_refspec_c.proofs.planning.gix_refspec_plan.Goals as goal

pub returns-in-Err : goal.returns-in-Err
returns-in-Err c = (Err c.in-Err.failure, c.number.ensures, tt, inr (inr (c.in-Err.ensures.err, refl)))

pub returns-in-Ok-write_all : goal.returns-in-Ok-write_all
returns-in-Ok-write_all c =
    let answer = c.in-Ok.answer in
    let lists = c.in-Ok.ensures.ok in
    let plan = subst (λ (hindrance : Option Failure). IsPlan hindrance (wish_texts c.args.wish.now)
    (map bytes_of c.args.names.now) lists.0) c.in-Some.is lists.1 in (
      Err c.in-Some.failure,
      c.number-in-Some.ensures,
      tt,
      inl (
        lists.0,
        plan,
        record {
          structs = answer.listing.mappings.items;
          text = answer.listing.text.items;
          describes = lists.2;
          write = c.in-Ok-write_all.ensures.ok;
        },
      ),
    )
