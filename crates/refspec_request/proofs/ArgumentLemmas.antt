-- The words of a call, as its arguments grow by one.
use Rattle.std.proofs.Common.{◌≡◌, ◌≢◌, ◌↔◌, ◌∙◌, ◌+◌, ◌-◌, ◌<◌, ◌≤◌, ◌==◌, ◌⊎◌, inl, inr, suc, ℕ, Bool, Bor, IsTrue}
use Rattle.std.proofs.Common.{List, [], ◌∷◌, ◌++◌, Option, None, Some, ap, append-nil, append_assoc, arith, bytes_eq}
use Rattle.std.proofs.Common.{codes}
use Rattle.std.proofs.Common.{Err, IfErr, Ok, Result}
use Rattle.std.proofs.Common.{drop, drop-cons, false, get_or, length, map, option_map, refl, subst, sym, take}
use Rattle.std.proofs.Common.{take-append-drop, take_all, true}
use Rattle.std.proofs.lemmas.Bool.{eqb-true, false≢true}
use Rattle.std.proofs.lemmas.List.{length-map, map-append, map_more, nil_from_length}
use Rattle.std.proofs.lemmas.List.Concat.{flat_map-append}
use Rattle.std.proofs.lemmas.Slice.Eq.{bytes_eq-Decides}
use Rattle.std.specs.List.{All, flat_map}
use Rattle.refspec_request.specs.declared.arguments.Options.{Options}
use Rattle.refspec_request.specs.declared.arguments.Purpose.{Purpose}
use Rattle.refspec_request.specs.declared.arguments.Subcommand.{Subcommand}
use Rattle.refspec_request.specs.declared.arguments.Switch.{Switch}
use Rattle.refspec_request.specs.declared.arguments.Texts.{Texts}
use Rattle.refspec_request.specs.declared.arguments.Valued.{Valued}
use Rattle.refspec_request.specs.declared.arguments.Valued.TheVariants as option
use Rattle.refspec_request.specs.declared.refusal.Refusal.{Refusal}
use Rattle.refspec_request.specs.Arguments.{AreCall, AreLettered, AreReadAs, AreSpelled, AreTexts, AskFor, AsksFor}
use Rattle.refspec_request.specs.Arguments.{Call, End, Ends, IsForCommand, IsLast, RefusesCall, RefusesCommand}
use Rattle.refspec_request.specs.Arguments.{RefusesGiven, RefusesLetters, RefusesLong, RefusesSwitch, RefusesText}
use Rattle.refspec_request.specs.Arguments.{Spells, Takes, Word, behind, command_named, flags, is_long, is_option}
use Rattle.refspec_request.specs.Arguments.{lacking, owner_of, refmap_in, remotes_in, remotes_of, switch_lettered}
use Rattle.refspec_request.specs.Arguments.{switches_in, text, texts_in, valued, valued_named, whole}
use Rattle.refspec_request.specs.Reading.{AreOptions, HasTexts, RefusesBehind, call_with, lacking_value}
use Rattle.refspec_request.specs.Refusals.{IsForMemory}

abbrev now : Bor (List ℕ) → List ℕ
now it = it.now

none_some : {A : Type 0} (x : A) → None ≡ Some x → ⊥
none_some x e = cc

-- one more word
spelled_more : (words : List Word) (w : Word) (front own : List (List ℕ)) → AreSpelled words front → Spells w own
    → AreSpelled (words ++ w ∷ []) (front ++ own)
spelled_more [] w front own empty is = (own, [], is, refl, ap (λ l. l ++ own) empty ∙ sym (append-nil own))
spelled_more (v ∷ words) w front own (first, rest, one, more, parts) is = (
  first,
  rest ++ own,
  one,
  spelled_more words w rest own more is,
  ap (λ l. l ++ own) parts ∙ append_assoc first rest own,
)

-- what is read off the words, with what it has
more_of : {A : Type 0} (f : Word → List A) (words : List Word) (w : Word) (xs own : List A) → xs ≡ flat_map f words
    → own ≡ f w → xs ++ own ≡ flat_map f (words ++ w ∷ [])
more_of f words w xs own so_far is = ap (λ l. l ++ own) so_far
    ∙ (ap (λ l. flat_map f words ++ l) (is ∙ sym (append-nil (f w))) ∙ sym (flat_map-append f words (w ∷ [])))

-- or with nothing
same_of : {A : Type 0} (f : Word → List A) (words : List Word) (w : Word) (xs : List A) → xs ≡ flat_map f words
    → [] ≡ f w → xs ≡ flat_map f (words ++ w ∷ [])
same_of f words w xs so_far none = sym (append-nil xs) ∙ more_of f words w xs [] so_far none

-- a value of --remote
pub remote_more : (words : List Word) (old new : Options) (value : Bor (List ℕ)) → AreOptions words old
    → new.switches.items ≡ old.switches.items → new.remote ≡ Some value → new.refmap.items ≡ old.refmap.items
    → AreOptions (words ++ valued option.Remote value.now ∷ []) new
remote_more words old new value are given remote refmap =
    let w = valued option.Remote value.now in record {
      given = given ∙ same_of switches_in words w old.switches.items are.given refl;
      remote = subst (λ (o : Option (Bor (List ℕ))). IsLast (remotes_of (words ++ w ∷ [])) (option_map now o))
          (sym remote)
          (remotes_of words, sym (more_of remotes_in words w (remotes_of words) (value.now ∷ []) refl refl));
      refmap = ap (map now) refmap ∙ same_of refmap_in words w (map now old.refmap.items) are.refmap refl;
    }

-- the last value of --remote, with a word that is none
same_remote : (words : List Word) (w : Word) (old new : Option (Bor (List ℕ)))
    → IsLast (remotes_of words) (option_map now old) → new ≡ old → [] ≡ remotes_in w
    → IsLast (remotes_of (words ++ w ∷ [])) (option_map now new)
same_remote words w old new last same none =
    subst (λ l. IsLast l (option_map now new)) (same_of remotes_in words w (remotes_of words) refl none)
    (subst (λ (o : Option (Bor (List ℕ))). IsLast (remotes_of words) (option_map now o)) (sym same) last)

-- a value of --refmap
pub refmap_more : (words : List Word) (old new : Options) (value : Bor (List ℕ)) → AreOptions words old
    → new.switches.items ≡ old.switches.items → new.remote ≡ old.remote
    → new.refmap.items ≡ old.refmap.items ++ value ∷ []
    → AreOptions (words ++ valued option.Refmap value.now ∷ []) new
refmap_more words old new value are given remote refmap =
    let w = valued option.Refmap value.now in record {
      given = given ∙ same_of switches_in words w old.switches.items are.given refl;
      remote = same_remote words w old.remote new.remote are.remote remote refl;
      refmap = ap (map now) refmap ∙ (map-append now old.refmap.items (value ∷ [])
          ∙ more_of refmap_in words w (map now old.refmap.items) (value.now ∷ []) are.refmap refl);
    }

-- options without a value
switches_more : (words : List Word) (old new : Options) (more : List Switch) → AreOptions words old
    → new.switches.items ≡ old.switches.items ++ more → new.remote ≡ old.remote
    → new.refmap.items ≡ old.refmap.items → AreOptions (words ++ flags more ∷ []) new
switches_more words old new more are given remote refmap =
    let w = flags more in record {
      given = given ∙ more_of switches_in words w old.switches.items more are.given refl;
      remote = same_remote words w old.remote new.remote are.remote remote refl;
      refmap = ap (map now) refmap ∙ same_of refmap_in words w (map now old.refmap.items) are.refmap refl;
    }

-- a text behind the command
pub argument_more : (texts : List (List ℕ)) (a : Bor (List ℕ)) (c d : Option Subcommand) (s : Subcommand)
    (old new : List (Bor (List ℕ))) → c ≡ Some s → d ≡ c → new ≡ old ++ a ∷ [] → AreTexts texts c (map now old)
    → AreTexts (texts ++ a.now ∷ []) d (map now new)
argument_more [] a c d s old new is same grown are = absurd (none_some s (sym are.0 ∙ is))
argument_more (name ∷ texts) a c d s old new is same grown are = (
  are.0 ∙ sym same,
  (λ e. none_some s (sym (sym same ∙ e) ∙ is)),
  ap (map now) grown ∙ (map-append now old (a ∷ []) ∙ ap (λ l. l ++ a.now ∷ []) are.2),
)

-- the command
pub command_more : (texts : List (List ℕ)) (a : List ℕ) (c d : Option Subcommand) (s : Subcommand)
    (old : List (List ℕ)) → c ≡ None → d ≡ Some s → Some s ≡ command_named a → AreTexts texts c old
    → AreTexts (texts ++ a ∷ []) d old
command_more [] a c d s old none is named are =
    (sym named ∙ sym is, (λ e. none_some s (sym e ∙ is)), are.1)
command_more (name ∷ texts) a c d s old none is named are = absurd (are.1 none)

-- a call whose last option has its value next, with that
pub value_read : (seen : List (List ℕ)) (a : List ℕ) (o : Valued) (old new : Options) (t : Texts)
    (lacks : Option Valued) (cut : Option ℕ) → lacks ≡ Some o → AreCall seen (call_with old t lacks cut)
    → ((words : List Word) → AreOptions words old → AreOptions (words ++ valued o a ∷ []) new)
    → AreCall (seen ++ a ∷ []) (call_with new t None cut)
value_read seen a o old new t lacks cut is call more = by call.end call.ended call.read
  where
    by : (end : End) → Ends end call.back → AreReadAs call.words end (call_with old t lacks cut)
        → AreCall (seen ++ a ∷ []) (call_with new t None cut)
    by whole ended read = absurd (none_some o (sym read.lacks ∙ is))
    by (behind rest) ended read = absurd (none_some o (sym read.lacks ∙ is))
    by (lacking p) (name, named, back) read =
        let e : Some p ≡ Some o = sym read.lacks ∙ is in
        let same : p ≡ o = cc in
        let own : List (List ℕ) = name ∷ (a ∷ []) in
        let options = more call.words
        (record { given = read.given; remote = read.remote; refmap = read.refmap }) in record {
          words = call.words ++ valued o a ∷ [];
          end = whole;
          front = call.front ++ own;
          back = [];
          spelled = spelled_more call.words (valued o a) call.front own call.spelled
              (name, named ∙ ap (λ x. Some x) same, inl refl);
          ended = refl;
          parts = ap (λ l. l ++ a ∷ []) (call.parts ∙ ap (λ l. call.front ++ l) back)
              ∙ (append_assoc call.front (name ∷ []) (a ∷ []) ∙ sym (append-nil (call.front ++ own)));
          read = record {
            texts = subst (λ l. HasTexts l t)
                (same_of texts_in call.words (valued o a) (flat_map texts_in call.words) refl refl) read.texts;
            given = options.given;
            remote = options.remote;
            refmap = options.refmap;
            lacks = refl;
            dashes = read.dashes;
          };
        }

-- a call with a text behind `--`
pub behind_read : (seen : List (List ℕ)) (a : List ℕ) (o : Options) (old new : Texts) (lacks : Option Valued)
    (cut : Option ℕ) (n : ℕ) → cut ≡ Some n → AreCall seen (call_with o old lacks cut)
    → ((texts : List (List ℕ)) → HasTexts texts old → HasTexts (texts ++ a ∷ []) new)
    → AreCall (seen ++ a ∷ []) (call_with o new lacks cut)
behind_read seen a o old new lacks cut n is call more = by call.end call.ended call.read
  where
    by : (end : End) → Ends end call.back → AreReadAs call.words end (call_with o old lacks cut)
        → AreCall (seen ++ a ∷ []) (call_with o new lacks cut)
    by whole ended read = absurd (none_some n (sym read.dashes ∙ is))
    by (lacking p) ended read = absurd (none_some n (sym read.dashes ∙ is))
    by (behind rest) back read = record {
      words = call.words;
      end = behind (rest ++ a ∷ []);
      front = call.front;
      back = codes "--" ∷ (rest ++ a ∷ []);
      spelled = call.spelled;
      ended = refl;
      parts = ap (λ l. l ++ a ∷ []) (call.parts ∙ ap (λ l. call.front ++ l) back)
          ∙ append_assoc call.front (codes "--" ∷ rest) (a ∷ []);
      read = record {
        texts = subst (λ l. HasTexts l new) (append_assoc (flat_map texts_in call.words) rest (a ∷ []))
            (more (flat_map texts_in call.words ++ rest) read.texts);
        given = read.given;
        remote = read.remote;
        refmap = read.refmap;
        lacks = read.lacks;
        dashes = read.dashes;
      };
    }

-- a call of words alone, with one more argument: that is one more word, or an end
grown : (seen : List (List ℕ)) (a : List ℕ) (c d : Call) → c.lacks ≡ None → c.dashes ≡ None → AreCall seen c
    → ((words : List Word) (front : List (List ℕ)) → AreSpelled words front → AreReadAs words whole c → seen ≡ front
    → AreCall (seen ++ a ∷ []) d)
    → AreCall (seen ++ a ∷ []) d
grown seen a c d complete open_ call more = by call.end call.ended call.read
  where
    by : (end : End) → Ends end call.back → AreReadAs call.words end c → AreCall (seen ++ a ∷ []) d
    by whole ended read = more call.words call.front call.spelled read
        (call.parts ∙ (ap (λ l. call.front ++ l) ended ∙ append-nil call.front))
    by (lacking p) ended read = absurd (none_some p (sym complete ∙ read.lacks))
    by (behind rest) ended read = absurd (none_some _ (sym open_ ∙ read.dashes))

word_read : (seen : List (List ℕ)) (a : List ℕ) (w : Word) (c d : Call) → c.lacks ≡ None → c.dashes ≡ None
    → Spells w (a ∷ []) → AreCall seen c
    → ((words : List Word) → AreReadAs words whole c → AreReadAs (words ++ w ∷ []) whole d)
    → AreCall (seen ++ a ∷ []) d
word_read seen a w c d complete open_ spells call more =
    grown seen a c d complete open_ call (λ words front spelled read parts. record {
      words = words ++ w ∷ [];
      end = whole;
      front = front ++ a ∷ [];
      back = [];
      spelled = spelled_more words w front (a ∷ []) spelled spells;
      ended = refl;
      parts = ap (λ l. l ++ a ∷ []) parts ∙ sym (append-nil (front ++ a ∷ []));
      read = more words read;
    })

end_read : (seen : List (List ℕ)) (a : List ℕ) (end : End) (c d : Call) → c.lacks ≡ None → c.dashes ≡ None
    → Ends end (a ∷ []) → AreCall seen c → ((words : List Word) → AreReadAs words whole c → AreReadAs words end d)
    → AreCall (seen ++ a ∷ []) d
end_read seen a end c d complete open_ ends call more =
    grown seen a c d complete open_ call (λ words front spelled read parts. record {
      words = words;
      end = end;
      front = front;
      back = a ∷ [];
      spelled = spelled;
      ended = ends;
      parts = ap (λ l. l ++ a ∷ []) parts;
      read = more words read;
    })

-- a call with one more text, where no `--` was
pub text_read : (seen : List (List ℕ)) (a : List ℕ) (o : Options) (old new : Texts) (lacks : Option Valued)
    (cut : Option ℕ) → lacks ≡ None → cut ≡ None → is_option a ≡ false → AreCall seen (call_with o old lacks cut)
    → ((texts : List (List ℕ)) → HasTexts texts old → HasTexts (texts ++ a ∷ []) new)
    → AreCall (seen ++ a ∷ []) (call_with o new lacks cut)
text_read seen a o old new lacks cut complete open_ other call more =
    word_read seen a (text a) (call_with o old lacks cut) (call_with o new lacks cut) complete open_ (other, refl) call
    (λ words read. record {
      texts = subst (λ l. HasTexts l new)
          (more_of texts_in words (text a) (flat_map texts_in words) (a ∷ []) refl refl)
          (more (flat_map texts_in words) read.texts);
      given = same_of switches_in words (text a) o.switches.items read.given refl;
      remote = same_remote words (text a) o.remote o.remote read.remote refl refl;
      refmap = same_of refmap_in words (text a) (map now o.refmap.items) read.refmap refl;
      lacks = read.lacks;
      dashes = read.dashes;
    })

-- a call with one more word that isn't a text
options_read : (seen : List (List ℕ)) (a : List ℕ) (w : Word) (old new : Options) (t : Texts) (lacks : Option Valued)
    (cut : Option ℕ) → lacks ≡ None → cut ≡ None → Spells w (a ∷ []) → [] ≡ texts_in w
    → AreCall seen (call_with old t lacks cut)
    → ((words : List Word) → AreOptions words old → AreOptions (words ++ w ∷ []) new)
    → AreCall (seen ++ a ∷ []) (call_with new t lacks cut)
options_read seen a w old new t lacks cut complete open_ spells other call more =
    word_read seen a w (call_with old t lacks cut) (call_with new t lacks cut) complete open_ spells call
    (λ words read.
    let options = more words (record { given = read.given; remote = read.remote; refmap = read.refmap }) in record {
      texts = subst (λ l. HasTexts l t) (same_of texts_in words w (flat_map texts_in words) refl other) read.texts;
      given = options.given;
      remote = options.remote;
      refmap = options.refmap;
      lacks = read.lacks;
      dashes = read.dashes;
    })

-- one with options without a value
pub switches_read : (seen : List (List ℕ)) (a : List ℕ) (given : List Switch) (old new : Options) (t : Texts)
    (lacks : Option Valued) (cut : Option ℕ) → lacks ≡ None → cut ≡ None → Spells (flags given) (a ∷ [])
    → new.switches.items ≡ old.switches.items ++ given → new.remote ≡ old.remote
    → new.refmap.items ≡ old.refmap.items → AreCall seen (call_with old t lacks cut)
    → AreCall (seen ++ a ∷ []) (call_with new t lacks cut)
switches_read seen a given old new t lacks cut complete open_ spells grown_ remote refmap call =
    options_read seen a (flags given) old new t lacks cut complete open_ spells refl call
    (λ words are. switches_more words old new given are grown_ remote refmap)

-- one with an option and its value behind `=`
pub valued_read : (seen : List (List ℕ)) (a name bytes : List ℕ) (v : Valued) (old new : Options) (t : Texts)
    (lacks : Option Valued) (cut : Option ℕ) → lacks ≡ None → cut ≡ None → valued_named name ≡ Some v
    → a ≡ name ++ (61 ∷ bytes) → AreCall seen (call_with old t lacks cut)
    → ((words : List Word) → AreOptions words old → AreOptions (words ++ valued v bytes ∷ []) new)
    → AreCall (seen ++ a ∷ []) (call_with new t lacks cut)
valued_read seen a name bytes v old new t lacks cut complete open_ named parts call more =
    options_read seen a (valued v bytes) old new t lacks cut complete open_
    (name, named, inr (ap (λ z. z ∷ []) parts)) refl call more

-- one that ends with an option whose value is next
pub lacking_read : (seen : List (List ℕ)) (a : List ℕ) (v : Valued) (o : Options) (t : Texts) (lacks : Option Valued)
    (cut : Option ℕ) → lacks ≡ None → cut ≡ None → valued_named a ≡ Some v → AreCall seen (call_with o t lacks cut)
    → AreCall (seen ++ a ∷ []) (call_with o t (Some v) cut)
lacking_read seen a v o t lacks cut complete open_ named call =
    end_read seen a (lacking v) (call_with o t lacks cut) (call_with o t (Some v) cut) complete open_
    (a, named, refl) call (λ words read. record {
      texts = read.texts;
      given = read.given;
      remote = read.remote;
      refmap = read.refmap;
      lacks = refl;
      dashes = read.dashes;
    })

-- how many texts there are behind the first
length_behind : (texts : List (List ℕ)) (c : Option Subcommand) (arguments : List (List ℕ))
    → AreTexts texts c arguments → length arguments ≡ length texts - 1
length_behind [] c arguments are = ap length are.1
length_behind (name ∷ texts) c arguments are =
    let less : length texts ≡ length (name ∷ texts) - 1 = omega arith in ap length are.2 ∙ less

-- one that ends with `--`
pub dashes_read : (seen : List (List ℕ)) (a : List ℕ) (o : Options) (t : Texts) (lacks : Option Valued)
    (cut : Option ℕ) (n : ℕ) → lacks ≡ None → cut ≡ None → a ≡ codes "--" → n ≡ length t.arguments.items
    → AreCall seen (call_with o t lacks cut) → AreCall (seen ++ a ∷ []) (call_with o t lacks (Some n))
dashes_read seen a o t lacks cut n complete open_ is count call =
    end_read seen a (behind []) (call_with o t lacks cut) (call_with o t lacks (Some n)) complete open_
    (ap (λ z. z ∷ []) is) call (λ words read. record {
      texts = subst (λ l. HasTexts l t) (sym (append-nil (flat_map texts_in words))) read.texts;
      given = read.given;
      remote = read.remote;
      refmap = read.refmap;
      lacks = complete;
      dashes = ap (λ k. Some k) (count ∙ (sym (length-map t.arguments.items now)
          ∙ length_behind (flat_map texts_in words) t.command (map now t.arguments.items) read.texts));
    })

-- the value of --remote, or of --refmap, for the option that is taken
pub remote_set : (o : Valued) (old new : Options) (value : Bor (List ℕ)) → o ≡ option.Remote
    → new.switches.items ≡ old.switches.items → new.remote ≡ Some value → new.refmap.items ≡ old.refmap.items
    → (words : List Word) → AreOptions words old → AreOptions (words ++ valued o value.now ∷ []) new
remote_set o old new value is given remote refmap words are =
    subst (λ v. AreOptions (words ++ valued v value.now ∷ []) new) (sym is)
    (remote_more words old new value are given remote refmap)

pub refmap_set : (o : Valued) (old new : Options) (value : Bor (List ℕ)) → o ≡ option.Refmap
    → new.switches.items ≡ old.switches.items → new.remote ≡ old.remote
    → new.refmap.items ≡ old.refmap.items ++ value ∷ []
    → (words : List Word) → AreOptions words old → AreOptions (words ++ valued o value.now ∷ []) new
refmap_set o old new value is given remote refmap words are =
    subst (λ v. AreOptions (words ++ valued v value.now ∷ []) new) (sym is)
    (refmap_more words old new value are given remote refmap)

-- there is a `--`
pub has_dashes : (cut : Option ℕ) (n : ℕ) → cut ≡ Some n → cut ≢ None
has_dashes cut n is e = none_some n (sym e ∙ is)

-- a text that is refused
pub text_refused : (seen : List (List ℕ)) (a : List ℕ) (e : Refusal) (c : Call) → c.lacks ≡ None
    → (c.dashes ≢ None) ⊎ (is_option a ≡ false) → AreCall seen c → IsForMemory e ⊎ RefusesText c.command a e
    → RefusesBehind seen a e
text_refused seen a e c complete is call (inl memory) = inl memory
text_refused seen a e c complete is call (inr told) = inr (c, call, (complete, inl (is, told)))

-- a long option that is refused
pub long_refused : (seen : List (List ℕ)) (a : List ℕ) (e : Refusal) (c : Call) → c.lacks ≡ None → c.dashes ≡ None
    → a ≢ codes "--" → is_long a ≡ true → AreCall seen c → IsForMemory e ⊎ RefusesLong a e → RefusesBehind seen a e
long_refused seen a e c complete open_ other long call (inl memory) = inl memory
long_refused seen a e c complete open_ other long call (inr told) =
    inr (c, call, (complete, inr (inl (open_, other, long, told))))

-- letters that are refused
pub letters_refused : (seen : List (List ℕ)) (a letters : List ℕ) (e : Refusal) (c : Call) → c.lacks ≡ None
    → c.dashes ≡ None → is_option a ≡ true → is_long a ≡ false → letters ≡ drop 1 a → AreCall seen c
    → IsForMemory e ⊎ RefusesLetters a letters e → RefusesBehind seen a e
letters_refused seen a letters e c complete open_ is short same call (inl memory) = inl memory
letters_refused seen a letters e c complete open_ is short same call (inr told) =
    inr (c, call, (complete, inr (inr (open_, is, short, subst (λ l. RefusesLetters a l e) same told))))

-- an argument among others
pub arguments_at : (all : List (Bor (List ℕ))) (i : ℕ) (d : Bor (List ℕ)) → i < length all
    → map now all ≡ map now (take i all) ++ (get_or all i d).now ∷ map now (drop (suc i) all)
arguments_at all i d below = sym (ap (map now) (take-append-drop i all))
    ∙ (map-append now (take i all) (drop i all)
    ∙ ap (λ (l : List (Bor (List ℕ))). map now (take i all) ++ map now l) (drop-cons all i d below))

-- why some arguments are refused: for the one at an index, or behind the last
pub first_refused : (all : List (Bor (List ℕ))) (i : ℕ) (d : Bor (List ℕ)) (e : Refusal) → i < length all
    → RefusesBehind (map now (take i all)) (get_or all i d).now e → RefusesCall (map now all) e
first_refused all i d e below (inl memory) = inl memory
first_refused all i d e below (inr told) = inr (inl (
  map now (take i all),
  (get_or all i d).now,
  map now (drop (suc i) all),
  arguments_at all i d below,
  told,
))

pub whole_refused : (all : List (Bor (List ℕ))) (i : ℕ) (c : Call) (e : Refusal) → length all ≤ i
    → AreCall (map now (take i all)) c → IsForCommand c.given × RefusesCommand c e → RefusesCall (map now all) e
whole_refused all i c e past call told = inr (inr (
  c,
  subst (λ (l : List (Bor (List ℕ))). AreCall (map now l) c) (take_all i all past) call,
  told.0,
  told.1,
))

-- what all arguments ask for
pub whole_asks : (all : List (Bor (List ℕ))) (i : ℕ) (c : Call) (p : Purpose) → length all ≤ i
    → AreCall (map now (take i all)) c → AsksFor c p → AskFor (map now all) p
whole_asks all i c p past call asks =
    (c, subst (λ (l : List (Bor (List ℕ))). AreCall (map now l) c) (take_all i all past) call, asks)

-- a command takes an option that has no owner, or that it owns
pub unowned : (c : Subcommand) (s : Switch) → None ≡ owner_of s → Takes c s
unowned c s none told other is = absurd (none_some (told, other) (none ∙ is))

abbrev owner : Option (List ℕ × Subcommand) → Subcommand → Subcommand
owner None c = c
owner (Some o) c = o.1

pub owned : (c other : Subcommand) (s : Switch) (told : List ℕ) → Some (told, other) ≡ owner_of s → c ≡ other
    → Takes c s
owned c other s told own same named more is =
    same ∙ ap (λ (o : Option (List ℕ × Subcommand)). owner o c) (own ∙ is)

-- it refuses the next
pub given_refused : (c : Subcommand) (all : List Switch) (i : ℕ) (d : Switch) (e : Refusal) → i < length all
    → All (Takes c) (take i all) → RefusesSwitch c (get_or all i d) e → RefusesGiven c all e
given_refused c all i d e below so_far refuses = record {
  before = take i all;
  at = get_or all i d;
  rest = drop (suc i) all;
  parts = sym (take-append-drop i all) ∙ ap (λ l. take i all ++ l) (drop-cons all i d below);
  taken = so_far;
  refuses = refuses;
}

-- there is a command
pub is_there : (c : Option Subcommand) (s : Subcommand) → c ≡ Some s → c ≢ None
is_there c s is e = none_some s (sym e ∙ is)

-- the same for equal options
pub given_told : (c : Subcommand) (xs ys : List Switch) (e : Refusal) → xs ≡ ys → RefusesGiven c xs e
    → RefusesGiven c ys e
given_told c xs ys e same told = subst (λ (l : List Switch). RefusesGiven c l e) same told

-- a call whose last option lacks its value is refused
pub lacks_told : (c : Call) (s : Subcommand) (o : Valued) (e : Refusal) → c.command ≡ Some s → c.lacks ≡ Some o
    → e ≡ lacking_value o → RefusesCommand c e
lacks_told c s option.Remote e has lacks is = inr (inl (is, is_there c.command s has, lacks))
lacks_told c s option.Refmap e has lacks is = inr (inr (inl (is, is_there c.command s has, lacks)))

-- nothing is read
pub nothing_read : (o : Options) (t : Texts) → AreOptions [] o → HasTexts [] t → AreCall [] (call_with o t None None)
nothing_read o t are texts = record {
  words = [];
  end = whole;
  front = [];
  back = [];
  spelled = refl;
  ended = refl;
  parts = refl;
  read = record {
    texts = texts;
    given = are.given;
    remote = are.remote;
    refmap = are.refmap;
    lacks = refl;
    dashes = refl;
  };
}

-- the name of the remote is tested, if there is one
pub names_none : (o : Option (Bor (List ℕ))) → o ≡ None → IsTrue false ↔ (option_map now o ≡ Some [])
names_none o none =
    ((λ so. absurd (false≢true so)), λ e. absurd (none_some [] (sym (ap (option_map now) none) ∙ e)))

pub names_nothing : (o : Option (Bor (List ℕ))) (x : Bor (List ℕ)) (test : Bool) → o ≡ Some x
    → test ≡ (length x.now == 0) → IsTrue test ↔ (option_map now o ≡ Some [])
names_nothing o x test is tested = (
  (λ so. ap (option_map now) is
      ∙ ap (λ z. Some z) (nil_from_length x.now (eqb-true (length x.now) 0 (sym tested ∙ so)))),
  λ e.
      let s : Some x.now ≡ Some [] = sym (ap (option_map now) is) ∙ e in
      let same : x.now ≡ [] = cc in
      tested ∙ ap (λ (l : List ℕ). length l == 0) same,
)

-- no specs of --refmap, or some
pub none_mapped : (xs : List (Bor (List ℕ))) → true ≡ (length xs == 0) → map now xs ≡ []
none_mapped xs so = ap (map now) (nil_from_length xs (eqb-true (length xs) 0 (sym so)))

pub some_mapped : (xs : List (Bor (List ℕ))) → false ≡ (length xs == 0) → map now xs ≢ []
some_mapped [] test e = false≢true test
some_mapped (x ∷ xs) test e = cc

-- two texts that a test tells apart
pub other_bytes : (a b : List ℕ) (test : Bool) → test ≡ bytes_eq a b → test ≡ false → a ≢ b
other_bytes a b test tested other same = false≢true (sym other ∙ (tested ∙ (bytes_eq-Decides a b).1 same))

-- the options of letters are added
abbrev pub AddsLetters : List ℕ → List Switch → List Switch → Type 0
AddsLetters letters old new = (more : List Switch) × AreLettered letters more × (new ≡ old ++ more)

pub no_letters : (old : List Switch) → AddsLetters [] old old
no_letters old = ([], refl, sym (append-nil old))

pub letters_more : (letters : List ℕ) (i d : ℕ) (s : Switch) (old mid new : List Switch) → i < length letters
    → AddsLetters (take i letters) old mid → switch_lettered (get_or letters i d) ≡ Some s → new ≡ mid ++ s ∷ []
    → AddsLetters (take (i + 1) letters) old new
letters_more letters i d s old mid new below (more, are, parts) is pushed = (
  more ++ s ∷ [],
  map_more switch_lettered letters i d below
      ∙ (ap (λ l. l ++ switch_lettered (get_or letters i d) ∷ []) are
      ∙ (ap (λ o. map (λ x. Some x) more ++ o ∷ []) is ∙ sym (map-append (λ x. Some x) more (s ∷ [])))),
  pushed ∙ (ap (λ l. l ++ s ∷ []) parts ∙ append_assoc old more (s ∷ [])),
)

-- a call with the options of letters
pub letters_read : (seen : List (List ℕ)) (a letters : List ℕ) (given : List Switch) (old new : Options) (t : Texts)
    (lacks : Option Valued) (cut : Option ℕ) → lacks ≡ None → cut ≡ None → is_option a ≡ true → is_long a ≡ false
    → letters ≡ drop 1 a → AreLettered letters given → new.switches.items ≡ old.switches.items ++ given
    → new.remote ≡ old.remote → new.refmap.items ≡ old.refmap.items → AreCall seen (call_with old t lacks cut)
    → AreCall (seen ++ a ∷ []) (call_with new t lacks cut)
letters_read seen a letters given old new t lacks cut complete open_ is short same are grown_ remote refmap call =
    switches_read seen a given old new t lacks cut complete open_
    (a, inr (is, short, subst (λ l. AreLettered l given) same are), refl) grown_ remote refmap call

-- a fact about an error implies its consequence
pub if_err : {T E : Type 0} (r : Result T E) (P Q : E → Type 0) → IfErr r P → ((e : E) → P e → Q e) → IfErr r Q
if_err (Ok x) P Q holds gives = holds
if_err (Err e) P Q holds gives = gives e holds
