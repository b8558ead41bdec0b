mod ObjectFacts
