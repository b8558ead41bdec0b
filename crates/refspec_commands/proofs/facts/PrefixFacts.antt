-- Which prefixes are requested, as lines of protocol v2 and as patterns, and which aren't.
use Rattle.std.proofs.Common.{◌≡◌, ◌≢◌, ℕ, true, false, List, [], ◌∷◌, ◌++◌, Some, Vec, Global, inl, inr, codes, length}
use Rattle.std.proofs.Common.{map, refl, sym, ap, ◌∙◌, subst, arith}
use Rattle.std.specs.Str.{chars, is_utf8}
use Rattle.gix_refspec.specs.Specs.Grammar.{fetched}
use Rattle.gix_refspec.specs.Specs.Reading.{Negative, Normal, Reading}
use Rattle.gix_refspec_text.specs.declared.name.Error.TheVariants.{RepeatedDot}
use Rattle.gix_refspec_text.specs.declared.parsing.Operation.TheVariants as operation
use Rattle.gix_refspec_text.specs.Matching.Side.{candidates}
use Rattle.gix_refspec_text.specs.Texts.Bytes.{head}
use Rattle.gix_refspec_text.specs.Texts.Name.{IsName}
use Rattle.gix_refspec_text.proofs.lemmas.texts.TestedLemmas.{IsName-tested}
use Rattle.gix_refspec.proofs.facts.RefNameFacts.{no_ref_names, ref_names}
use Rattle.gix_refspec.specs.Matching.Asked.{CanBeSent, HasNoList, Lists, ListsBeside, ListsGroup, ListsSide, Requests}
use Rattle.gix_refspec.specs.declared.match_group.prefixes.RefPrefixes.{RefPrefixes}
use Rattle.gix_refspec.specs.declared.match_group.prefixes.RefPrefixes.TheVariants as requested
use Rattle.gix_refspec.proofs.facts.AskedFacts.{lists_at_brackets, lists_of_specs, requested as of_group}
use Rattle.gix_refspec_match.proofs.facts.RedundantFacts.{first_left}
use Rattle.gix_refspec_text.proofs.facts.FaultFacts.{begins_not}
use Rattle.gix_refspec_text.proofs.lemmas.prefixes.PrefixLemmas.{one_asked}
use Rattle.gix_refspec_text.proofs.facts.FitFacts.{every, no_dev, other_byte}
use Rattle.gix_refspec_text.proofs.facts.ManualFacts.{other_length}
use Rattle.refspec_json.specs.Objects.{line_of, prefix_object}
use Rattle.refspec_io.specs.declared.call.Form.TheVariants as form
use Rattle.refspec_commands.specs.declared.prefixes.answer.Answer.TheVariants as answer
use Rattle.refspec_commands.specs.declared.prefixes.report.Notation.TheVariants as notation
use Rattle.refspec_commands.specs.Prefixes.{AddsAll, AddsNothing, AddsPrefixes, AddsRequests, AddsTooMany, AddsWhole}
use Rattle.refspec_commands.specs.Prefixes.{AnswersFor, AreBeside, AreOthers, AreReasons, AsksByName, IsReason}
use Rattle.refspec_commands.specs.Prefixes.{TakesWhole, argument}
use Rattle.refspec_commands.specs.Prefixes.{asked_object, request}
use Rattle.bstr.specs.Owned.{bstring_bytes}
use Rattle.bstr.specs.declared.bstring.BString.{BString}
use Rattle.gix_refspec_text.specs.declared.spec.RefSpecRef.{RefSpecRef}
use Rattle.gix_refspec.specs.Views.Spec.{reading_of}
use Rattle.std.proofs.lemmas.Option.{same_Some}

-- a prefix is after the name of its argument, and a pattern ends with a star
pub requests : (argument notation.Argument ≡ codes "ref-prefix ") × (argument notation.Pattern ≡ [])
    × (request notation.Argument (codes "refs/heads/") ≡ codes "refs/heads/")
    × (request notation.Pattern (codes "refs/heads/") ≡ codes "refs/heads/*")
requests = (refl, refl, refl, refl)

-- what stands for all refs, and for no request
pub words : AddsAll notation.Argument form.Lines [] (codes "a\n") (codes "a\n(all)\n")
    × AddsAll notation.Argument form.Zeros [] [] (0 ∷ [])
    × AddsAll notation.Pattern form.Lines [] [] (codes "*\n") × AddsAll notation.Pattern form.Zeros [] []
    (codes "*" ++ 0 ∷ [])
    × AddsNothing form.Lines (codes "a\n") (codes "a\n(nothing)\n") × AddsNothing form.Zeros [] []
    × AddsTooMany notation.Argument form.Lines (codes "a\n") (codes "a\n(all)\n")
    × AddsTooMany notation.Pattern form.Zeros [] (codes "*" ++ 0 ∷ [])
words = (refl, refl, refl, refl, refl, refl, refl, refl)

-- neither stands for the other
pub other_words : ¬ (AddsAll notation.Argument form.Lines [] [] (codes "(nothing)\n"))
    × ¬ (AddsAll notation.Argument form.Zeros [] [] [])
    × ¬ (AddsNothing form.Lines [] (codes "(all)\n")) × ¬ (AddsNothing form.Zeros [] (0 ∷ []))
other_words = (
  other_length _ _ (λ size. omega (arith, size)),
  (λ same. omega (arith, ap length same)),
  other_length _ _ (λ size. omega (arith, size)),
  λ same. omega (arith, ap length same),
)

-- a line for each prefix, with the name of its argument or a star; records don't have the name
pub listed : AddsRequests notation.Argument form.Lines (codes "refs/heads/" ∷ codes "HEAD" ∷ []) []
    (codes "ref-prefix refs/heads/\nref-prefix HEAD\n")
    × AddsRequests notation.Pattern form.Lines (codes "refs/heads/" ∷ []) [] (codes "refs/heads/*\n")
    × AddsRequests notation.Argument form.Zeros (codes "refs/heads/" ∷ []) [] (codes "refs/heads/" ++ 0 ∷ [])
    × AddsRequests notation.Pattern form.Zeros (codes "refs/heads/" ∷ []) [] (codes "refs/heads/*" ++ 0 ∷ [])
listed = (
  (_, (codes "refs/heads/", codes "ref-prefix HEAD\n", inl refl, (codes "HEAD", [], inl refl, refl, refl), refl), refl),
  (_, (codes "refs/heads/*", [], inl refl, refl, refl), refl),
  refl,
  refl,
)

-- a list isn't reported as no request, nor a prefix without the name of its argument, nor a pattern with it
pub not_listed : ¬ (AddsRequests notation.Argument form.Lines (codes "refs/heads/" ∷ []) [] (codes "(nothing)\n"))
    × ¬ (AddsRequests notation.Argument form.Lines (codes "refs/heads/" ∷ []) [] (codes "refs/heads/\n"))
    × ¬ (AddsRequests notation.Pattern form.Lines (codes "refs/heads/" ∷ []) [] (codes "ref-prefix refs/heads/*\n"))
    × ¬ (AddsRequests notation.Argument form.Zeros (codes "refs/heads/" ∷ []) [] [])
not_listed = (
  (λ adds. other_byte 0 (codes "(nothing)\n") (codes "ref-prefix " ++ _) (λ byte. omega (arith, byte)) (adds.2
      ∙ adds.1.4)),
  (λ adds. other_byte 3 (codes "refs/heads/\n") (codes "ref-prefix " ++ _) (λ byte. omega (arith, byte)) (adds.2
      ∙ adds.1.4)),
  starred,
  λ same. omega (arith, ap length same),
)
  where
    starred : ¬ (AddsRequests notation.Pattern form.Lines (codes "refs/heads/" ∷ []) []
        (codes "ref-prefix refs/heads/*\n"))
    starred (lines, (shown, rest, inl is, none, all), same) =
        other_byte 3 (codes "ref-prefix refs/heads/*\n") (codes "refs/heads/*" ++ (10 ∷ rest)) (λ byte. omega (
          arith,
          byte,
        )) (same ∙ (all ∙ ap (λ (s : List ℕ). s ++ (10 ∷ rest)) is))
    starred (lines, (shown, rest, inr is, none, all), same) =
        other_byte 0 (codes "ref-prefix refs/heads/*\n") (34 ∷ _) (λ byte. omega (arith, byte)) (same
        ∙ (all ∙ ap (λ (s : List ℕ). s ++ (10 ∷ rest)) is))

-- a spec whose star is after a `]`, for which no list is safe, and one whose star is right after `refs/`
abbrev by_bracket : Reading
by_bracket = fetched Normal (codes "refs/a]*") (Some (codes "refs/x/*"))

abbrev all_refs : Reading
all_refs = fetched Normal (codes "refs/*") (Some (codes "refs/x/*"))

unlisted : (list : List (List ℕ)) → ¬ (Lists by_bracket list)
unlisted list (inl (negative, none)) = let same : Normal ≡ Negative = negative in cc
unlisted list (inr (x, asked, lists)) =
    lists_at_brackets.1 list
    (subst (λ (y : List ℕ). ListsSide y list)
    (one_asked by_bracket x (codes "refs/a]*") asked (record { positive = tt; side = refl })) lists)

no_list : HasNoList (every ∷ by_bracket ∷ [])
no_list = (1, by_bracket, omega arith, refl, unlisted)

-- a push of all refs below `refs/x/` to `refs/`
abbrev to_all : Reading
to_all = record (fetched Normal (codes "refs/x/*") (Some (codes "refs/*"))) { operation = operation.Push }

-- `refs/` is requested if the star is right after it on the remote, but not for a negative spec
pub wholes : TakesWhole all_refs × ¬ (TakesWhole every) × ¬ (TakesWhole no_dev) × ¬ (TakesWhole by_bracket)
    × ¬ (TakesWhole (record all_refs { mode = Negative })) × TakesWhole to_all
    × ¬ (TakesWhole (record all_refs { operation = operation.Push }))
wholes = (
  (tt, ([], refl)),
  (λ takes. other_byte 5 (codes "refs/heads/*") (codes "refs/*" ++ takes.1.0) (λ byte. omega (arith, byte))
      (same_Some _ _ takes.1.1)),
  (λ takes. takes.0),
  (λ takes. other_byte 5 (codes "refs/a]*") (codes "refs/*" ++ takes.1.0) (λ byte. omega (arith, byte))
      (same_Some _ _ takes.1.1)),
  (λ takes. takes.0),
  (tt, ([], refl)),
  λ takes. other_byte 5 (codes "refs/x/*") (codes "refs/*" ++ takes.1.0) (λ byte. omega (arith, byte))
      (same_Some _ _ takes.1.1),
)

-- `HEAD` and a full name are asked for by themselves, a partial name by its candidates, and an invalid one not at all
pub by_name : AsksByName head (head ∷ []) × AsksByName (codes "refs/heads/main") (codes "refs/heads/main" ∷ [])
    × AsksByName (codes "main") (candidates (codes "main")) × AsksByName (codes "refs/../x") []
    × ¬ (AsksByName head (candidates head)) × ¬ (AsksByName (codes "main") (codes "main" ∷ []))
    × ¬ (AsksByName (codes "refs/../x") (codes "refs/../x" ∷ []))
by_name = (
  inl (ref_names.1, refl),
  inl (ref_names.0, refl),
  inr (no_ref_names.0, inl (IsName-tested (codes "main") refl, refl)),
  inr (no_ref_names.2, inr (dotted, refl)),
  head_completed,
  partial_alone,
  invalid_asked,
)
  where
    dotted : ¬ (IsName (codes "refs/../x"))
    dotted name = name RepeatedDot (record { before = codes "refs/"; after = codes "/x"; here = refl })

    head_completed : ¬ (AsksByName head (candidates head))
    head_completed (inl (is, same)) = omega (arith, ap length same)
    head_completed (inr (other, rest)) = other ref_names.1

    partial_alone : ¬ (AsksByName (codes "main") (codes "main" ∷ []))
    partial_alone (inl (is, same)) = no_ref_names.0 is
    partial_alone (inr (other, inl (is, same))) = omega (arith, ap length same)
    partial_alone (inr (other, inr (none, same))) = omega (arith, ap length same)

    invalid_asked : ¬ (AsksByName (codes "refs/../x") (codes "refs/../x" ∷ []))
    invalid_asked (inl (is, same)) = no_ref_names.2 is
    invalid_asked (inr (other, inl (is, same))) = dotted is
    invalid_asked (inr (other, inr (none, same))) = omega (arith, ap length same)

-- names are asked for in order, and then all tags exactly if these are
pub beside : AreBeside (head ∷ codes "refs/heads/main" ∷ []) true
    (head ∷ codes "refs/heads/main" ∷ codes "refs/tags/" ∷ [])
    × AreBeside [] false [] × ¬ (AreBeside [] true []) × ¬ (AreBeside [] false (codes "refs/tags/" ∷ []))
    × ¬ (AreBeside (head ∷ []) false [])
beside = (
  (
    head ∷ codes "refs/heads/main" ∷ [],
    (
      head ∷ [],
      codes "refs/heads/main" ∷ [],
      by_name.0,
      (codes "refs/heads/main" ∷ [], [], by_name.1, refl, refl),
      refl,
    ),
    refl,
  ),
  ([], refl, refl),
  tags_lost,
  tags_unasked,
  head_lost,
)
  where
    tags_lost : ¬ (AreBeside [] true [])
    tags_lost (named, none, same) = omega (arith, ap length (rw none at same))

    tags_unasked : ¬ (AreBeside [] false (codes "refs/tags/" ∷ []))
    tags_unasked (named, none, same) = omega (arith, ap length (rw none at same))

    head_lost : ¬ (AreBeside (head ∷ []) false [])
    head_lost (named, (own, rest, inl (is, one), none, all), same) = omega (
      arith,
      ap length (rw (all, one, none) at same),
    )
    head_lost (named, (own, rest, inr (other, more), none, all), same) = other ref_names.1

-- the other specs stay in order
pub others : AreOthers (every ∷ all_refs ∷ no_dev ∷ []) (every ∷ no_dev ∷ []) × AreOthers (all_refs ∷ []) []
    × ¬ (AreOthers (every ∷ []) []) × ¬ (AreOthers (all_refs ∷ []) (all_refs ∷ []))
others = (
  inr (wholes.1, (no_dev ∷ [], inl (wholes.0, inr (wholes.2, ([], refl, refl))), refl)),
  inl (wholes.0, refl),
  lost,
  kept,
)
  where
    lost : ¬ (AreOthers (every ∷ []) [])
    lost (inl (takes, none)) = wholes.1 takes
    lost (inr (other, (rest, none, same))) = omega (arith, ap length same)

    kept : ¬ (AreOthers (all_refs ∷ []) (all_refs ∷ []))
    kept (inl (takes, none)) = omega (arith, ap length none)
    kept (inr (other, (rest, none, same))) = other wholes.0

-- the specs without a list are the reason, in order, and no others
bracket_alone : IsReason by_bracket
bracket_alone = inl (0, by_bracket, omega arith, refl, unlisted)

-- a list isn't all refs
not_all : (list : Vec BString Global) → requested.Listed list ≢ requested.All
not_all list same = cc

pub reasons : (list : Vec BString Global) → map bstring_bytes list.items ≡ codes "refs/heads/" ∷ []
    → AreReasons (every ∷ by_bracket ∷ []) (by_bracket ∷ []) × ¬ (AreReasons (by_bracket ∷ []) [])
    × ¬ (AreReasons (every ∷ []) (every ∷ []))
reasons list one = (
  inr ((requested.Listed list, (of_group list one).1, not_all list), inl (bracket_alone, ([], refl, refl))),
  lost,
  needless,
)
  where
    only_all : (asked : RefPrefixes) → Requests (by_bracket ∷ []) asked → asked ≡ requested.All
    only_all requested.Nothing is = absurd (unlisted is.1.0 is.1.2)
    only_all (requested.Listed l) is = absurd (unlisted is.0.1.0 is.0.1.2)
    only_all requested.All is = refl

    lost : ¬ (AreReasons (by_bracket ∷ []) [])
    lost (inl (without, (rest, none, same))) = omega (arith, ap length same)
    lost (inr ((asked, some, other), none)) = other (only_all asked some)

    needless : ¬ (AreReasons (every ∷ []) (every ∷ []))
    needless (inl (without, more)) = (of_group list one).4 without
    needless (inr (listed, none)) = omega (arith, ap length none)

-- the prefixes of a group, all refs if no list is safe, and no request for negative specs
pub reported : (prefixes : Vec BString Global) (why : Vec RefSpecRef Global)
    → map bstring_bytes prefixes.items ≡ codes "refs/" ∷ [] → map reading_of why.items ≡ by_bracket ∷ []
    → AreReasons (every ∷ by_bracket ∷ []) (by_bracket ∷ [])
    → AddsPrefixes [] notation.Argument form.Lines (every ∷ all_refs ∷ no_dev ∷ []) [] (codes "ref-prefix refs/\n")
    × AddsPrefixes [] notation.Pattern form.Lines (every ∷ by_bracket ∷ []) [] (codes "*\n")
    × AddsPrefixes [] notation.Argument form.Lines (no_dev ∷ []) [] (codes "(nothing)\n")
reported prefixes why one one_why are = (
  (
    answer.Listed prefixes,
    record {
      others = every ∷ no_dev ∷ [];
      are = others.0;
      whole = codes "refs/" ∷ [];
      is_whole = inl ((λ same. omega (arith, ap length same)), refl);
      answers = (
        subst (ListsBeside (codes "refs/" ∷ []) (every ∷ no_dev ∷ [])) (sym one) (
          codes "refs/heads/" ∷ [],
          (codes "refs/heads/" ∷ [], [], lists_of_specs.0, ([], [], lists_of_specs.1, refl, refl), refl),
          first_left (codes "refs/") (codes "refs/heads/") (record { after = codes "heads/"; here = refl })
              (λ begins. absurd (begins_not (codes "refs/heads/") (codes "refs/") refl begins)),
        ),
        (λ none. omega (arith, ap length (sym one ∙ ap (map bstring_bytes) none))),
        subst CanBeSent (sym one) (record { few = omega arith; short = (omega arith, tt) }),
      );
    },
    subst (λ l. AddsRequests notation.Argument form.Lines l [] (codes "ref-prefix refs/\n")) (sym one)
        (_, (codes "refs/", [], inl refl, refl, refl), refl),
  ),
  (
    answer.All why,
    record {
      others = every ∷ by_bracket ∷ [];
      are = inr (wholes.1, (by_bracket ∷ [], inr (wholes.3, ([], refl, refl)), refl));
      whole = [];
      is_whole = inr (refl, refl);
      answers = (inl no_list, subst (AreReasons (every ∷ by_bracket ∷ [])) (sym one_why) are);
    },
    subst (λ g. AddsWhole notation.Pattern form.Lines g [] (codes "*\n")) (sym one_why) refl,
  ),
  (
    answer.Nothing,
    record {
      others = no_dev ∷ [];
      are = inr (wholes.2, ([], refl, refl));
      whole = [];
      is_whole = inr (refl, refl);
      answers = ([], ([], [], lists_of_specs.1, refl, refl), record { are = refl; begin = tt });
    },
    refl,
  ),
)

-- all refs aren't reported as no request, and aren't the answer for branches
pub not_reported : (list : Vec BString Global) → map bstring_bytes list.items ≡ codes "refs/heads/" ∷ []
    → ¬ (AddsPrefixes [] notation.Argument form.Lines (by_bracket ∷ []) [] (codes "(nothing)\n"))
    × ((why : Vec RefSpecRef Global) → ¬ (AnswersFor [] (every ∷ []) (answer.All why)))
not_reported list one = (all_as_nothing, λ why asked. (of_group list one).4 asked.0)
  where
    none_listed : (h : List Reading) (l : List (List ℕ)) → AreOthers (by_bracket ∷ []) h
        → ¬ (ListsGroup h l)
    none_listed h l (inl (takes, none)) lists = wholes.3 takes
    none_listed h l (inr (other, (rest, empty, same))) lists =
        let moved = subst (λ (g : List Reading). ListsGroup g l)
        (same ∙ ap (λ (g : List Reading). by_bracket ∷ g) empty)
        lists in unlisted moved.0 moved.2

    all_words : (g : List Reading) → ¬ (AddsWhole notation.Argument form.Lines g [] (codes "(nothing)\n"))
    all_words [] adds = other_words.0 adds
    all_words (r ∷ g) adds = other_words.0 adds

    all_as_nothing : ¬ (AddsPrefixes [] notation.Argument form.Lines (by_bracket ∷ []) [] (codes "(nothing)\n"))
    all_as_nothing (answer.Nothing, asked, adds) = none_listed asked.others asked.answers.0 asked.are asked.answers.1
    all_as_nothing (answer.Listed l, asked, adds) = none_listed asked.others asked.answers.0.0 asked.are
        asked.answers.0.1
    all_as_nothing (answer.All why, asked, adds) = all_words (map reading_of why.items) adds

-- a prefix as an object, with the pattern of the names that begin with it
pub object : asked_object (codes "refs/") ≡ line_of (prefix_object (codes "refs/") (codes "refs/*"))
unfolding is_utf8 chars lib.Utf8.encode
object = refl
