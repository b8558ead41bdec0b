-- The ref prefixes to request from a server, in order.
use Rattle.std.proofs.Common.{◌≡◌, ◌⊎◌, ℕ, ◌+◌, ◌<◌, true, false}
use Rattle.std.proofs.Common.{codes, List, [], ◌∷◌, ◌++◌, ◌≢◌, ◌≤◌, flat_map, get_or, inl, inr}
use Rattle.std.proofs.Common.{◌==◌, length, map, take, refl, sym, ap, ◌∙◌, subst, arith}
use Rattle.std.proofs.lemmas.Bool.{eqb-true, false≢true}
use Rattle.std.proofs.lemmas.Grind.{flat_map-append}
use Rattle.std.proofs.lemmas.List.{append-nil, length-map, map-append, map_more, take_more}
use Rattle.refspec_io.specs.declared.call.Form.{Form}
use Rattle.refspec_io.specs.declared.call.Form.TheVariants as form
use Rattle.bstr.specs.BStr.{bstr_bytes}
use Rattle.bstr.specs.Owned.{bstring_bytes}
use Rattle.bstr.specs.declared.bstr.BStr.{BStr}
use Rattle.bstr.specs.declared.bstring.BString.{BString}
use Rattle.gix_refspec.specs.Specs.Reading.{Reading}
use Rattle.gix_refspec.specs.Views.Spec.{reading_of}
use Rattle.gix_refspec_text.specs.declared.spec.RefSpecRef.{RefSpecRef}
use Rattle.refspec_io.specs.Json.{AddsObjects}
use Rattle.refspec_io.specs.Shown.{AddsNames}
use Rattle.refspec_io.proofs.JsonLemmas.{AddsObjects-next}
use Rattle.refspec_io.proofs.ShownLemmas.{AddsNames-append, AddsNames-none, behind}
use Rattle.gix_refspec.specs.Matching.Asked.{Requests, RequestsBeside}
use Rattle.gix_refspec.specs.declared.match_group.prefixes.RefPrefixes.{RefPrefixes}
use Rattle.gix_refspec.specs.declared.match_group.prefixes.RefPrefixes.TheVariants as requested
use Rattle.refspec_commands.specs.declared.prefixes.report.Notation.{Notation}
use Rattle.gix_refspec_match.proofs.Common.{joined_next, map_long}
use Rattle.refspec_commands.specs.Prefixes.{AddsAll, AddsRequests, AddsTooMany, AddsWhole, AreNamed, AreOthers}
use Rattle.refspec_commands.specs.Prefixes.{AreReasons, AsksByName, CanBeListed, IsReason, IsReasonObject, IsWhole}
use Rattle.refspec_commands.specs.Prefixes.{TakesWhole, argument, asked_object, request}

-- what stands for all refs, and one more reason
pub AddsAll-next : (n : Notation) (f g : Form) (specs : List RefSpecRef) (i : ℕ) (s : RefSpecRef) (old mid new : List ℕ)
    → i < length specs → s ≡ get_or specs i s → g ≡ f → AddsAll n f (map reading_of (take i specs)) old mid
    → AddsObjects g IsReasonObject (reading_of s ∷ []) mid new → AddsAll n f (map reading_of (take (i + 1) specs)) old
    new
AddsAll-next n form.Lines g specs i s old mid new below is same all reported =
    subst (λ (x : Form). AddsObjects x IsReasonObject (reading_of s ∷ []) mid new) same reported ∙ all
AddsAll-next n form.Zeros g specs i s old mid new below is same all reported =
    subst (λ (x : Form). AddsObjects x IsReasonObject (reading_of s ∷ []) mid new) same reported ∙ all
AddsAll-next n form.Json g specs i s old mid new below is same all reported =
    AddsObjects-next form.Json g IsReasonObject reading_of specs i s (reading_of s) old mid new below same
    (ap reading_of is) all reported

-- ---- the specs for which `refs/` is requested, and the others

AreOthers-append : (g h others more : List Reading) → AreOthers g others → AreOthers h more
    → AreOthers (g ++ h) (others ++ more)
AreOthers-append [] h others more none are = subst (λ (l : List Reading). AreOthers h (l ++ more)) (sym none) are
AreOthers-append (r ∷ g) h others more (inl (takes, those)) are =
    inl (takes, AreOthers-append g h others more those are)
AreOthers-append (r ∷ g) h others more (inr (other, (rest, those, same))) are =
    inr (other, (rest ++ more, AreOthers-append g h rest more those are, ap (λ l. l ++ more) same))

-- the readings of one more spec
readings_next : (specs : List RefSpecRef) (i : ℕ) (s : RefSpecRef) → i < length specs → s ≡ get_or specs i s
    → map reading_of (take (i + 1) specs) ≡ map reading_of (take i specs) ++ reading_of s ∷ []
readings_next specs i s below is = ap (map reading_of) (take_more specs i s below)
    ∙ (map-append reading_of (take i specs) (get_or specs i s ∷ [])
    ∙ ap (λ (x : RefSpecRef). map reading_of (take i specs) ++ reading_of x ∷ []) (sym is))

-- one more spec
pub AreOthers-next : (specs : List RefSpecRef) (i : ℕ) (s : RefSpecRef) (old new : List RefSpecRef) → i < length specs
    → s ≡ get_or specs i s → AreOthers (map reading_of (take i specs)) (map reading_of old)
    → AreOthers (reading_of s ∷ []) (map reading_of new) → AreOthers (map reading_of (take (i + 1) specs))
    (map reading_of old ++ map reading_of new)
AreOthers-next specs i s old new below is so_far one =
    subst (λ (l : List Reading). AreOthers l (map reading_of old ++ map reading_of new))
    (sym (readings_next specs i s below is)) (AreOthers-append (map reading_of (take i specs)) (reading_of s ∷ [])
    (map reading_of old) (map reading_of new) so_far one)

pub AreOthers-whole : (specs : List RefSpecRef) (i : ℕ) (s : RefSpecRef) (old : List RefSpecRef) → i < length specs
    → s ≡ get_or specs i s → TakesWhole (reading_of s) → AreOthers (map reading_of (take i specs)) (map reading_of old)
    → AreOthers (map reading_of (take (i + 1) specs)) (map reading_of old)
AreOthers-whole specs i s old below is takes so_far = subst (AreOthers (map reading_of (take (i + 1) specs)))
    (append-nil (map reading_of old)) (AreOthers-next specs i s old [] below is so_far (inl (takes, refl)))

pub AreOthers-other : (specs : List RefSpecRef) (i : ℕ) (s : RefSpecRef) (old new : List RefSpecRef) → i < length specs
    → s ≡ get_or specs i s → ¬ (TakesWhole (reading_of s)) → new ≡ old ++ s ∷ []
    → AreOthers (map reading_of (take i specs)) (map reading_of old) → AreOthers (map reading_of (take (i + 1) specs))
    (map reading_of new)
AreOthers-other specs i s old new below is other grown so_far = subst (AreOthers (map reading_of (take (i + 1) specs)))
    (sym (ap (map reading_of) grown ∙ map-append reading_of old (s ∷ [])))
    (AreOthers-next specs i s old (s ∷ []) below is so_far (inr (other, ([], refl, refl))))

-- the others are at most as many as all specs, and if as many, they are all specs
others_many : (g others : List Reading) → AreOthers g others → (length others ≤ length g)
    × (length others ≡ length g → others ≡ g)
others_many [] others none = (omega (arith, ap length none), λ same. none)
others_many (r ∷ g) others (inl (takes, those)) =
    let rest = others_many g others those in
    (omega (arith, rest.0), λ same. absurd (omega (arith, rest.0, same)))
others_many (r ∷ g) others (inr (other, (more, those, same))) =
    let rest = others_many g more those in
    let size = ap length same in
    (omega (arith, rest.0, size), λ long. same ∙ ap (λ l. r ∷ l) (rest.1 (omega (arith, long, size))))

-- if the other specs are fewer, `refs/` is requested beside them
pub IsWhole-fewer : (specs others : List RefSpecRef) (p : BString) (whole : List BString)
    → length others < length specs → bstring_bytes p ≡ codes "refs/" → whole ≡ [] ++ p ∷ []
    → IsWhole (map reading_of specs) (map reading_of others) (map bstring_bytes whole)
IsWhole-fewer specs others p whole fewer is first = inl (
  (λ same. omega (arith, fewer, ap length same, length-map others reading_of, length-map specs reading_of)),
  ap (map bstring_bytes) first ∙ ap (λ (x : List ℕ). x ∷ []) is,
)

-- if they are as many as all, nothing is
pub IsWhole-same : (specs others : List RefSpecRef) (whole : List BString) → length specs ≤ length others
    → AreOthers (map reading_of specs) (map reading_of others) → whole ≡ []
    → IsWhole (map reading_of specs) (map reading_of others) (map bstring_bytes whole)
IsWhole-same specs others whole most are none =
    let many = others_many (map reading_of specs) (map reading_of others) are in
    inr (
      many.1 (omega (arith, most, length-map others reading_of, length-map specs reading_of, many.0)),
      ap (map bstring_bytes) none,
    )

-- two lists of ref prefixes in one
both_lists : (list first second : List BString) → list ≡ first ++ second
    → map bstring_bytes list ≡ map bstring_bytes first ++ map bstring_bytes second
both_lists list first second same = ap (map bstring_bytes) same ∙ map-append bstring_bytes first second

-- what is requested beside the specs, and `refs/`, in one list
pub RequestsBeside-whole : (list beside whole : List BString) (g : List Reading) (asked : RefPrefixes)
    → list ≡ beside ++ whole → RequestsBeside (map bstring_bytes list) g asked
    → RequestsBeside (map bstring_bytes beside ++ map bstring_bytes whole) g asked
RequestsBeside-whole list beside whole g asked same requests =
    subst (λ (l : List (List ℕ)). RequestsBeside l g asked) (both_lists list beside whole same) requests

-- one more name that is asked for
pub AreNamed-next : (names : List BStr) (i : ℕ) (d : BStr) (x : List ℕ) (old own new : List BString)
    → i < length names → x ≡ bstr_bytes (get_or names i d) → new ≡ old ++ own → AsksByName x (map bstring_bytes own)
    → AreNamed (map bstr_bytes (take i names)) (map bstring_bytes old)
    → AreNamed (map bstr_bytes (take (i + 1) names)) (map bstring_bytes new)
AreNamed-next names i d x old own new below is grown asks so_far =
    subst (AreNamed (map bstr_bytes (take (i + 1) names))) (sym (both_lists new old own grown))
    (subst (λ (l : List (List ℕ)). AreNamed l (map bstring_bytes old ++ map bstring_bytes own))
    (ap (λ (n : List ℕ). map bstr_bytes (take i names) ++ n ∷ []) is ∙ sym (map_more bstr_bytes names i d below))
    (joined_next (λ k n list. AsksByName n list) i (map bstr_bytes (take i names)) x (map bstring_bytes old)
    (map bstring_bytes own) (map_long bstr_bytes names i below) so_far asks))

-- ---- the specs that are the reason why all refs are requested

AreReasons-append : (g h reasons more : List Reading) → AreReasons g reasons → AreReasons h more
    → AreReasons (g ++ h) (reasons ++ more)
AreReasons-append [] h reasons more none are = subst (λ (l : List Reading). AreReasons h (l ++ more)) (sym none) are
AreReasons-append (r ∷ g) h reasons more (inl (without, (rest, those, same))) are = inl (
  without,
  (rest ++ more, AreReasons-append g h rest more those are, ap (λ l. l ++ more) same),
)
AreReasons-append (r ∷ g) h reasons more (inr (listed, those)) are = inr (
  listed,
  AreReasons-append g h reasons more those are,
)

-- one more spec
AreReasons-next : (specs : List RefSpecRef) (i : ℕ) (s : RefSpecRef) (old new : List Reading) → i < length specs
    → s ≡ get_or specs i s → AreReasons (map reading_of (take i specs)) old → AreReasons (reading_of s ∷ []) new
    → AreReasons (map reading_of (take (i + 1) specs)) (old ++ new)
AreReasons-next specs i s old new below is so_far one =
    subst (λ (l : List Reading). AreReasons l (old ++ new)) (sym (readings_next specs i s below is))
    (AreReasons-append (map reading_of (take i specs)) (reading_of s ∷ []) old new so_far one)

-- one more spec with a list that can be sent, and one without
pub AreReasons-listed : (specs : List RefSpecRef) (i : ℕ) (s : RefSpecRef) (old : List RefSpecRef) → i < length specs
    → s ≡ get_or specs i s → CanBeListed (reading_of s)
    → AreReasons (map reading_of (take i specs)) (map reading_of old)
    → AreReasons (map reading_of (take (i + 1) specs)) (map reading_of old)
AreReasons-listed specs i s old below is listed so_far =
    subst (AreReasons (map reading_of (take (i + 1) specs))) (append-nil (map reading_of old))
    (AreReasons-next specs i s (map reading_of old) [] below is so_far (inr (listed, refl)))

pub AreReasons-without : (specs : List RefSpecRef) (i : ℕ) (s : RefSpecRef) (old new : List RefSpecRef)
    → i < length specs → s ≡ get_or specs i s → IsReason (reading_of s) → new ≡ old ++ s ∷ []
    → AreReasons (map reading_of (take i specs)) (map reading_of old)
    → AreReasons (map reading_of (take (i + 1) specs)) (map reading_of new)
AreReasons-without specs i s old new below is without grown so_far =
    subst (AreReasons (map reading_of (take (i + 1) specs)))
    (sym (ap (map reading_of) grown ∙ map-append reading_of old (s ∷ [])))
    (AreReasons-next specs i s (map reading_of old) (reading_of s ∷ []) below is so_far
    (inl (without, ([], refl, refl))))

-- a spec alone, as the group of one
pub is_reason-of : (h : List Reading) (r : Reading) → h ≡ r ∷ [] → Requests h requested.All → IsReason r
is_reason-of h r same all = subst (λ (g : List Reading). Requests g requested.All) same all

pub listed-of : (h : List Reading) (r : Reading) (asked : RefPrefixes) → h ≡ r ∷ [] → Requests h asked
    → asked ≢ requested.All → CanBeListed r
listed-of h r asked same some other = (asked, subst (λ (g : List Reading). Requests g asked) same some, other)

-- prefixes and then others
AddsRequests-append : (n : Notation) (f : Form) (xs ys : List (List ℕ)) (old mid new : List ℕ)
    → AddsRequests n f xs old mid → AddsRequests n f ys mid new → AddsRequests n f (xs ++ ys) old new
AddsRequests-append n form.Lines xs ys old mid new a b =
    subst (λ (l : List (List ℕ)). AddsNames form.Lines (argument n) l old new) (sym (map-append (request n) xs ys))
    (AddsNames-append form.Lines (argument n) (map (request n) xs) (map (request n) ys) old mid new a b)
AddsRequests-append n form.Zeros xs ys old mid new a b =
    subst (λ (l : List (List ℕ)). AddsNames form.Zeros (argument n) l old new) (sym (map-append (request n) xs ys))
    (AddsNames-append form.Zeros (argument n) (map (request n) xs) (map (request n) ys) old mid new a b)
AddsRequests-append n form.Json xs ys old mid new a b = behind old (flat_map asked_object xs) mid
    (flat_map asked_object ys) new a b ∙ ap (λ l. old ++ l) (sym (flat_map-append asked_object xs ys))

-- at the start there is no prefix
pub AddsRequests-start : (n : Notation) (f : Form) (old : List ℕ) → AddsRequests n f [] old old
AddsRequests-start n form.Lines old = AddsNames-none form.Lines (argument n) old old refl
AddsRequests-start n form.Zeros old = AddsNames-none form.Zeros (argument n) old old refl
AddsRequests-start n form.Json old = sym (append-nil old)

-- one more prefix
pub AddsRequests-next : (n : Notation) (f g : Form) (xs : List BString) (i : ℕ) (d : BString) (p old mid new : List ℕ)
    → i < length xs → g ≡ f → p ≡ bstring_bytes (get_or xs i d) → AddsRequests n f (map bstring_bytes (take i xs)) old
    mid → AddsRequests n g (p ∷ []) mid new → AddsRequests n f (map bstring_bytes (take (i + 1) xs)) old new
AddsRequests-next n f g xs i d p old mid new below same is a b =
    let b2 = subst (λ (x : Form). AddsRequests n x (p ∷ []) mid new) same b in
    let step : map bstring_bytes (take (i + 1) xs) ≡ map bstring_bytes (take i xs) ++ p ∷ [] =
    ap (map bstring_bytes) (take_more xs i d below) ∙ (map-append bstring_bytes (take i xs) (get_or xs i d ∷ [])
    ∙ ap (λ z. map bstring_bytes (take i xs) ++ z ∷ []) (sym is)) in
    subst (λ (l : List (List ℕ)). AddsRequests n f l old new) (sym step)
    (AddsRequests-append n f (map bstring_bytes (take i xs)) (p ∷ []) old mid new a b2)

-- a prefix as a name that is shown
pub AddsRequests-shown : (n : Notation) (f : Form) (p old new : List ℕ) → (f ≡ form.Lines) ⊎ (f ≡ form.Zeros)
    → AddsNames f (argument n) (request n p ∷ []) old new → AddsRequests n f (p ∷ []) old new
AddsRequests-shown n f p old new (inl is) reported = subst (λ (x : Form). AddsRequests n x (p ∷ []) old new) (sym is)
    (subst (λ (x : Form). AddsNames x (argument n) (request n p ∷ []) old new) is reported)
AddsRequests-shown n f p old new (inr is) reported = subst (λ (x : Form). AddsRequests n x (p ∷ []) old new) (sym is)
    (subst (λ (x : Form). AddsNames x (argument n) (request n p ∷ []) old new) is reported)

-- the same for the bytes before it and the name that are written
pub AddsRequests-named : (n : Notation) (f : Form) (p before name old new : List ℕ)
    → (f ≡ form.Lines) ⊎ (f ≡ form.Zeros) → before ≡ argument n → name ≡ request n p
    → AddsNames f before (name ∷ []) old new → AddsRequests n f (p ∷ []) old new
AddsRequests-named n f p before name old new either is_before is_name reported =
    AddsRequests-shown n f p old new either
    (subst (λ (x : List ℕ). AddsNames f (argument n) (x ∷ []) old new) is_name
    (subst (λ (x : List ℕ). AddsNames f x (name ∷ []) old new) is_before reported))

-- all refs for some specs, and for none of them alone
pub AddsWhole-of : (n : Notation) (f : Form) (reasons : List Reading) (old new : List ℕ) → (reasons ≡ [] → ⊥)
    → AddsAll n f reasons old new → AddsWhole n f reasons old new
AddsWhole-of n f [] old new some reported = absurd (some refl)
AddsWhole-of n f (r ∷ reasons) old new some reported = reported

pub AddsWhole-none : (n : Notation) (f : Form) (reasons : List Reading) (old new : List ℕ) → reasons ≡ []
    → AddsTooMany n f old new → AddsWhole n f reasons old new
AddsWhole-none n f reasons old new none reported =
    subst (λ (g : List Reading). AddsWhole n f g old new) (sym none) reported

pub no_reasons : (reasons : List RefSpecRef) → true ≡ (length reasons == 0) → map reading_of reasons ≡ []
no_reasons [] is = refl
no_reasons (s ∷ reasons) is = absurd (omega (arith, eqb-true _ _ (sym is)))

pub some_reasons : (reasons : List RefSpecRef) → false ≡ (length reasons == 0) → map reading_of reasons ≡ [] → ⊥
some_reasons [] is none = false≢true is
some_reasons (s ∷ reasons) is none = cc
